-- The laws of the meter record.
use Rattle.std.specs.Prelude.{◌≡◌, ℕ, zero, suc, ◌^◌, ◌<◌, ◌≤◌, Bool, true, false, List, [], ◌∷◌, ◌++◌, length, ℤ, Ok, FitsSigned, ◌==◌, nat_lt, refl}
use Rattle.std.proofs.Common.{sym, ap, ◌∙◌, arith, ltb-false, lit<, lit≤, to_z-of_z, of_z, to_z, Fits}
use Rattle.std.specs.Int.Signed.{mag}
use Rattle.std.proofs.Math.Facts.{of_z-to_z, sfits_to_z}
use Rattle.std.specs.Int.{w16}
use Rattle.std.proofs.lemmas.Int.{ints}
use Rattle.record.specs.declared.meter.Meter.{Meter}
use Rattle.record.specs.Kind.{Lawful, Encodes}
use Rattle.record.specs.Meters.{fields_fit, meter_sound, meter_octets, meter_parsed, meter_format}
use Rattle.record.specs.Octets.{Octets, le, un, bit}
use Rattle.record.specs.OctetsLemmas.{un_le, le_un, un_lt, octets_le, octets_append}
use Rattle.record.specs.Results.{ok_past, ok_is}

-- a count of 32 bits and a temperature of 16 are sound
fit : (p : ℕ) (t : ℤ) → p < 2 ^ 32 → mag t < 2 ^ 15 → fields_fit p t ≡ true
fit p t hp ht = grind arith

flag_back : (p : ℕ) (t : ℤ) (v : Bool) → meter_parsed (le 4 p ++ le 2 (of_z w16 t) ++ bit v ∷ [])
    ≡ Ok (record { pulses = un (le 4 p); centidegrees = to_z w16 (un (le 2 (of_z w16 t))); valid = v })
flag_back p t true = refl
flag_back p t false = refl

read_back : (m : Meter) → meter_sound m ≡ true → meter_parsed (meter_octets m) ≡ Ok m
read_back m h =
    let p = m.pulses in
    let t = m.centidegrees in
    let small : p < 256 ^ 4 = grind arith in
    let low : mag t < 2 ^ 15 = grind arith in
    let near : FitsSigned w16 t = record { sfits = low } in
    let bits : of_z w16 t < 256 ^ 2 = omega (arith, ints, near) in
    flag_back p t m.valid ∙ simp (un_le 4 p small, un_le 2 (of_z w16 t) bits, to_z-of_z near)

flag_is : (g : ℕ) → g ≤ 1 → bit (g == 1) ≡ g
flag_is zero h = refl
flag_is (suc zero) h = refl
flag_is (suc (suc n)) h = absurd (omega arith)

written : (s : List ℕ) (m : Meter) → length s ≡ 7 → Octets s → meter_parsed s ≡ Ok m → Encodes meter_format m s
written [] m long o h = absurd (omega arith)
written (a ∷ []) m long o h = absurd (omega arith)
written (a ∷ b ∷ []) m long o h = absurd (omega arith)
written (a ∷ b ∷ c ∷ []) m long o h = absurd (omega arith)
written (a ∷ b ∷ c ∷ d ∷ []) m long o h = absurd (omega arith)
written (a ∷ b ∷ c ∷ d ∷ e ∷ []) m long o h = absurd (omega arith)
written (a ∷ b ∷ c ∷ d ∷ e ∷ f ∷ []) m long o h = absurd (omega arith)
written (a ∷ b ∷ c ∷ d ∷ e ∷ f ∷ g ∷ x ∷ xs) m long o h = absurd (omega arith)
written (a ∷ b ∷ c ∷ d ∷ e ∷ f ∷ g ∷ []) m long (oa, (ob, (oc, (od, (oe, (of, og)))))) h =
    let count : List ℕ = a ∷ b ∷ c ∷ d ∷ [] in
    let degrees : List ℕ = e ∷ f ∷ [] in
    let o4 : Octets count = (oa, (ob, (oc, (od, tt)))) in
    let o2 : Octets degrees = (oe, (of, tt)) in
    let p = ok_past (nat_lt 1 g) _ _ m h in
    let bits : Fits w16 (un degrees) = record { fits = un_lt degrees o2 } in
    let is = ok_is p.1 in
    record {
      sound = ap meter_sound (sym is) ∙ fit (un count) (to_z w16 (un degrees)) (un_lt count o4) (sfits_to_z {w = w16} bits).sfits;
      octets = ap meter_octets (sym is)
          ∙ ap (λ n. le 4 (un count) ++ le 2 n ++ bit (g == 1) ∷ []) (of_z-to_z bits)
          ∙ ap (λ l. l ++ le 2 (un degrees) ++ bit (g == 1) ∷ []) (le_un count o4)
          ∙ ap (λ l. count ++ l ++ bit (g == 1) ∷ []) (le_un degrees o2)
          ∙ ap (λ n. count ++ degrees ++ n ∷ []) (flag_is g (ltb-false 1 g p.0));
    }

bit_small : (b : Bool) → bit b < 256
bit_small true = lit< tt
bit_small false = lit< tt

small : (m : Meter) → meter_sound m ≡ true → Octets (meter_octets m)
small m h =
    let degrees : List ℕ = le 2 (of_z w16 m.centidegrees) in
    octets_append (le 4 m.pulses) (degrees ++ bit m.valid ∷ []) (octets_le 4 m.pulses)
    (octets_append degrees (bit m.valid ∷ []) (octets_le 2 (of_z w16 m.centidegrees)) (bit_small m.valid, tt))

pub meter_lawful : Lawful meter_format
meter_lawful = record {
  some = lit≤ tt;
  few = lit≤ tt;
  signed = lit< tt;
  whole = λ r h. refl;
  small = small;
  read_back = read_back;
  written_back = written;
  zeros = refl;
}
