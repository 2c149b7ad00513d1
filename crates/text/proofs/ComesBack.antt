-- Octets that are written and read again.
use Rattle.std.proofs.Common.{◌≡◌, ℕ, suc, ◌+◌, ◌*◌, ◌/◌, ◌%◌, ◌<◌, List, [], ◌∷◌, get_or, Some, refl, ap, ◌∙◌, arith}
use Rattle.std.proofs.lemmas.Bool.Decides.{nat_tests}
use Rattle.text.specs.Digit.{digit, digit_value}
use Rattle.text.specs.Hexadecimal.{paired, before, octets_read, hexadecimal_text}

-- a digit counts what it was written for
pub digit_comes_back : (v : ℕ) → v < 16 → digit_value (digit v) ≡ Some v
digit_comes_back v h = grind (arith, nat_tests)

octet_comes_back : (o : ℕ) → o < 256 → paired (digit_value (digit (o / 16))) (digit_value (digit (o % 16))) ≡ Some o
octet_comes_back o h =
    let e : o / 16 * 16 + o % 16 ≡ o = omega arith in
    ap (λ p. paired p (digit_value (digit (o % 16)))) (digit_comes_back (o / 16) (omega arith))
    ∙ (ap (paired (Some (o / 16))) (digit_comes_back (o % 16) (omega arith)) ∙ ap Some e)

-- octets come back
pub octets_come_back : (os : List ℕ) → ((k : ℕ) → get_or os k 0 < 256) → octets_read (hexadecimal_text os) ≡ Some os
octets_come_back [] h = refl
octets_come_back (o ∷ os) h =
    ap (λ p. before p (octets_read (hexadecimal_text os))) (octet_comes_back o (h 0))
    ∙ ap (before (Some o)) (octets_come_back os (λ k. h (suc k)))
