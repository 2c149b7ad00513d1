-- The laws of the draw record.
use Rattle.std.specs.Prelude.{◌≡◌, ℕ, zero, suc, ◌%◌, ◌^◌, ◌<◌, ◌≤◌, Bool, true, false, cond, not, ◌&&◌, T, ltb, List, [], ◌∷◌, length, take, Some, None, Ok, ◌==◌, from_bits, nat_lt, to_bits, refl, Float}
use Rattle.std.proofs.Common.{sym, ap, subst, ◌∙◌, arith, ltb-false, eqb-true, lit<, lit≤}
use Rattle.std.specs.Float.Ieee.{fits, is_nan, nan_bits}
use Rattle.std.specs.Float.Ieee.Bits.{is_true, of_bits-fits, of_bits-to_bits, to_bits-lt, to_bits-of_bits, nan_bits_is, nan_bits_above}
use Rattle.std.proofs.lemmas.List.{take_all}
use Rattle.std.specs.Float.{float_is_finite, nan, inf, fin, binary64}
use Rattle.record.specs.declared.draw.Draw.{Draw}
use Rattle.record.specs.declared.draw.Draw.TheVariants.{Stop, Run, Preset}
use Rattle.record.specs.declared.fault.RecordCause.TheVariants.{NotZero}
use Rattle.record.specs.Calls.{fault}
use Rattle.record.specs.Draws.{number_sound, draw_sound, draw_octets, draw_of, with_number, draw_parsed, double_read, draw_format}
use Rattle.record.specs.Kind.{Lawful, Encodes}
use Rattle.record.specs.Octets.{Octets, le, un}
use Rattle.record.specs.OctetsLemmas.{un_le, le_un, un_lt, octets_le}
use Rattle.record.specs.Results.{ok_past, ok_at, ok_is}

finite_no_nan : (x : Float) → float_is_finite x ≡ true → T (not (is_nan x))
unfolding float_is_finite is_nan
finite_no_nan nan h = absurd (cc)
finite_no_nan (inf s) h = tt
finite_no_nan (fin s m e) h = tt

nan_not_finite : (x : Float) → is_nan x ≡ true → float_is_finite x ≡ false
unfolding float_is_finite is_nan
nan_not_finite nan h = refl
nan_not_finite (inf s) h = refl
nan_not_finite (fin s m e) h = absurd (cc)

-- the bits of a NaN are not read
pub nan_unread : (bits : ℕ) → 0x7FF0000000000000 < bits % 0x8000000000000000 → double_read bits ≡ None
nan_unread bits h =
    let above : ltb 0x7FF0000000000000 (bits % 0x8000000000000000) ≡ true = grind arith in
    let found : is_nan (from_bits binary64 bits) ≡ true = sym (nan_bits_is binary64 bits) ∙ nan_bits_above binary64 bits ∙ above in
    ap (λ b. cond b (Some (from_bits binary64 bits)) None) (nan_not_finite (from_bits binary64 bits) found)

pub no_nan : (bits : ℕ) → bits % 0x8000000000000000 ≤ 0x7FF0000000000000 → T (not (nan_bits binary64 bits))
no_nan bits h =
    let below : ltb 0x7FF0000000000000 (bits % 0x8000000000000000) ≡ false = grind arith in
    subst (λ b. T (not b)) (sym (nan_bits_above binary64 bits ∙ below)) tt

and_true : (a b : Bool) → (a && b) ≡ true → (a ≡ true) × (b ≡ true)
and_true true b h = (refl, h)
and_true false b h = absurd (cc)

number_back : (x : Float) → number_sound x ≡ true → double_read (un (le 8 (to_bits binary64 x))) ≡ Some x
number_back x h =
    let p = and_true (float_is_finite x) (fits binary64 x) h in
    let held : T (fits binary64 x) = subst T (sym p.1) tt in
    ap double_read (un_le 8 (to_bits binary64 x) (to_bits-lt binary64 x held))
    ∙ ap (λ y. cond (float_is_finite y) (Some y) None) (of_bits-to_bits binary64 x held)
    ∙ ap (λ b. cond b (Some x) None) p.0

read_back : (d : Draw) → draw_sound d ≡ true → draw_parsed (draw_octets d) ≡ Ok d
read_back Stop h = refl
read_back (Run x) h = ap (with_number 1) (number_back x h)
read_back (Preset x) h = ap (with_number 2) (number_back x h)

whole : (d : Draw) → draw_sound d ≡ true → length (draw_octets d) ≡ 9
whole Stop h = refl
whole (Run x) h = refl
whole (Preset x) h = refl

small : (d : Draw) → draw_sound d ≡ true → Octets (draw_octets d)
small Stop h = (lit< tt, octets_le 8 0)
small (Run x) h = (lit< tt, octets_le 8 (to_bits binary64 x))
small (Preset x) h = (lit< tt, octets_le 8 (to_bits binary64 x))

-- a number that was read is finite, and the record holds it
finite_read : (b : Bool) (tag : ℕ) (x : Float) (d : Draw) → with_number tag (cond b (Some x) None) ≡ Ok d
    → (b ≡ true) × (cond (tag == 1) (Run x) (Preset x) ≡ d)
finite_read true tag x d h = (refl, cc)
finite_read false tag x d h = absurd (cc)

-- the record's octets are the tag and the bits, and it is sound
pub record Written (tag bits : ℕ) (d : Draw) : Type 0 where
  pub sound : draw_sound d ≡ true
  pub octets : draw_octets d ≡ tag ∷ le 8 bits

-- a record of a finite number
by_number : (bits : ℕ) (make : Float → Draw) (tag : ℕ) → bits < 2 ^ 64 → float_is_finite (from_bits binary64 bits) ≡ true
    → ((x : Float) → draw_sound (make x) ≡ number_sound x) → ((x : Float) → draw_octets (make x) ≡ tag ∷ le 8 (to_bits binary64 x))
    → Written tag bits (make (from_bits binary64 bits))
by_number bits make tag h f sounds octets =
    let x = from_bits binary64 bits in
    record {
      sound = sounds x ∙ ap (λ b. b && fits binary64 x) f ∙ is_true (fits binary64 x) (of_bits-fits binary64 bits);
      octets = octets x ∙ ap (λ n. tag ∷ le 8 n) (to_bits-of_bits binary64 bits h (finite_no_nan x f));
    }

by_tag : (tag bits : ℕ) (d : Draw) → tag ≤ 2 → bits < 2 ^ 64
    → cond (tag == 0) (cond (bits == 0) (Ok Stop) (fault NotZero 1)) (with_number tag (double_read bits)) ≡ Ok d
    → Written tag bits d
by_tag zero bits d t h e =
    let p = ok_at (bits == 0) _ (Ok Stop) d e in
    let zeros = eqb-true bits 0 p.0 in
    subst (Written 0 bits) (ok_is p.1) (record { sound = refl; octets = ap (λ n. 0 ∷ le 8 n) (sym zeros) })
by_tag (suc zero) bits d t h e =
    let p = finite_read (float_is_finite (from_bits binary64 bits)) 1 (from_bits binary64 bits) d e in
    subst (Written 1 bits) p.1 (by_number bits Run 1 h p.0 (λ x. refl) (λ x. refl))
by_tag (suc (suc zero)) bits d t h e =
    let p = finite_read (float_is_finite (from_bits binary64 bits)) 2 (from_bits binary64 bits) d e in
    subst (Written 2 bits) p.1 (by_number bits Preset 2 h p.0 (λ x. refl) (λ x. refl))
by_tag (suc (suc (suc n))) bits d t h e = absurd (omega arith)

written : (s : List ℕ) (d : Draw) → length s ≡ 9 → Octets s → draw_parsed s ≡ Ok d → Encodes draw_format d s
written [] d long o h = absurd (omega arith)
written (tag ∷ rest) d long o h =
    let eight : length rest ≡ 8 = omega arith in
    let all : take 8 rest ≡ rest = take_all 8 rest (omega arith) in
    let low : un rest < 2 ^ 64 = subst (λ n. un rest < 256 ^ n) eight (un_lt rest o.1) in
    let p = ok_past (nat_lt 2 tag) _ _ d (subst (λ l. draw_of tag (un l) ≡ Ok d) all h) in
    let w = by_tag tag (un rest) d (ltb-false 2 tag p.0) low p.1 in
    record {
      sound = w.sound;
      octets = w.octets ∙ ap (λ l. tag ∷ l) (subst (λ n. le n (un rest) ≡ rest) eight (le_un rest o.1));
    }

pub draw_lawful : Lawful draw_format
draw_lawful = record {
  some = lit≤ tt;
  few = lit≤ tt;
  signed = lit< tt;
  whole = whole;
  small = small;
  read_back = read_back;
  written_back = written;
  zeros = refl;
}
