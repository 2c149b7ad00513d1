use Rattle.std.proofs.Common.{◌≡◌, ℕ, List, drop, sym, refl, arith}
use lib.Bits.{bit_xor, xor_lt, xor_comm}
use Rattle.std.proofs.lemmas.List.{at_drop_all}
use Rattle.signature.specs.Signature.{bit_steps, entered}
use Rattle.signature.proofs.Octets.{four_down}
use Rattle.signature.proofs.Register.{bit_steps_lt, bit_steps_xor}
use Rattle.signature.proofs.eight.Goals as goal

pub returns : goal.returns
returns c =
    let r : ℕ = c.args.register in
    let os : List ℕ = c.args.octets.now in
    let w : ℕ = bit_xor r c.from_le_bytes-high.result in
    let none : r ≡ entered r (drop 8 os) = sym (at_drop_all (entered r) os 8 (omega (arith, c.told-octets))) in
    let less = bit_steps_lt 32 w (xor_lt 32 r c.from_le_bytes-high.result (omega arith) (omega arith)) in
    let first = four_down r os 4 5 6 7 8 refl refl refl refl
    (omega (arith, c.told-octets)) c.fits-octets (omega arith) none c.from_le_bytes-high.ensures in
    let second = four_down r os 0 1 2 3 4 refl refl refl refl
    (omega (arith, c.told-octets)) c.fits-octets less first c.from_le_bytes-low.ensures in
    let sum = bit_steps_xor 32 (bit_steps 32 w) c.from_le_bytes-low.result less (omega arith) in
    let high : c.four-2.result ≡ bit_steps 32 (bit_steps 32 w) = c.four-2.ensures in
    cc (c.four.ensures, xor_comm c.four.result c.four-2.result)
