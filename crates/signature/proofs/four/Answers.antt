use Rattle.std.proofs.Common.{◌≡◌, ◌+◌, ◌*◌, ◌^◌, get_or, arith}
use Rattle.signature.specs.Signature.{bit_steps}
use lib.Bits.{bit_xor, xor_lt}
use Rattle.signature.proofs.Octets.{four_by_tables}
use Rattle.signature.proofs.four.Goals as goal

pub returns : goal.returns
returns g c =
    let less = xor_lt 32 c.args.register c.args.word (omega arith) (omega arith) in
    let third : c.row-2.result ≡ bit_steps (8 * (g.row.TABLE + 2 + 1)) (get_or c.to_le_bytes.result 2 0 * 2 ^ 24) = grind (arith, c.requires, c.row-2.ensures) in
    four_by_tables g.row.TABLE (bit_xor c.args.register c.args.word) c.to_le_bytes.result less c.to_le_bytes.ensures
    c.row.ensures third c.row-3.ensures c.row-4.ensures
