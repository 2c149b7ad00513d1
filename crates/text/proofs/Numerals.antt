-- Reading a number digit by digit, and by the library.
use Rattle.std.proofs.Common.{◌≡◌, ℕ, zero, suc, ◌+◌, ◌*◌, ◌^◌, ◌<◌, ◌≤◌, ◌≢◌, eqb, ltb, List, [], ◌∷◌, ◌++◌, length, get_or, drop, Ok, Err, Result, Some, None, Option, sym, refl, ap, ◌∙◌, inl, inr, arith}
use lib.Utf8.{encode}
use Rattle.std.specs.Prelude.{◌↔◌}
use Rattle.std.specs.Option.{option_map}
use Rattle.std.specs.Result.{result_ok, OkIff}
use Rattle.std.specs.Char.{digit_value as letter_value}
use Rattle.std.specs.Str.Parse.{AllDigits, IsNumeral, ParsesUnsigned, digits_value, digits_value_after}
use Rattle.std.proofs.lemmas.List.{at_drop_more, at_drop_all}
use Rattle.std.proofs.lemmas.Bool.{cases_lt, ne_eqb, le-ltb, lt-ltb, cond-true, cond-false, cond_both}
use Rattle.std.proofs.lemmas.Bool.Decides.{nat_tests}
use Rattle.std.proofs.lemmas.Iterator.Adapters.{option_map_id}
use Rattle.std.proofs.lemmas.Str.Parse.{without_leading_plus_none}
use Rattle.text.specs.Digit.{digit_value}
use Rattle.text.specs.Number.{below, appended, continued, numeral, positive, negative, integer}

-- no number, or one that reaches the limit
abbrev pub Beyond : ℕ → Option ℕ → Type 0
Beyond limit None = Unit {0}
Beyond limit (Some n) = limit ≤ n

pub beyond : (limit : ℕ) (o : Option ℕ) → below limit o ≡ None → Beyond limit o
beyond limit None h = tt
beyond limit (Some n) h = grind (arith, nat_tests)

grown : (limit r n d : ℕ) → 0 < r → limit ≤ n → limit ≤ n * r + d
grown limit zero n d p h = absurd (omega arith)
grown limit (suc r) n d p h = omega arith

beyond_appended : (limit r n : ℕ) (d : Option ℕ) → 0 < r → limit ≤ n → Beyond limit (appended r n d)
beyond_appended limit r n None p h = tt
beyond_appended limit r n (Some d) p h =
    cond_both (ltb d r) (Some (n * r + d)) None (Beyond limit) (λ _. grown limit r n d p h) (λ _. tt)

-- more digits do not bring a number back below the limit
pub stays_beyond : (limit r : ℕ) (o : Option ℕ) (s : List ℕ) → 0 < r → Beyond limit o → below limit (continued r o s) ≡ None
stays_beyond limit r None s p h = refl
stays_beyond limit r (Some n) [] p h = cond-false (ltb n limit) (Some n) None (le-ltb n limit h)
stays_beyond limit r (Some n) (c ∷ s) p h =
    stays_beyond limit r (appended r n (digit_value c)) s p (beyond_appended limit r n (digit_value c) p h)

-- before the first digit
pub started : (r : ℕ) (s : List ℕ) → (length s ≡ 0 → ⊥) → continued r (Some 0) s ≡ numeral r s
started r [] h = absurd (h refl)
started r (c ∷ s) h = refl

-- one more digit
pub one_more : (r n : ℕ) (s : List ℕ) (i : ℕ) → i < length s
    → continued r (Some n) (drop i s) ≡ continued r (appended r n (digit_value (get_or s i 0))) (drop (i + 1) s)
one_more r n s i h = at_drop_more (continued r (Some n)) s i 0 h

kept : (limit m : ℕ) (o : Option ℕ) → below limit o ≡ Some m → o ≡ Some m
kept limit m None e = grind arith
kept limit m (Some n) e = grind (arith, nat_tests)

pub is_below : (limit m : ℕ) (o : Option ℕ) → below limit o ≡ Some m → m < limit
is_below limit m None e = absurd (grind arith)
is_below limit m (Some n) e = grind (arith, nat_tests)

-- one more digit, and the number is still below the limit
pub still_below : (limit r n m : ℕ) (s : List ℕ) (i : ℕ) → i < length s
    → below limit (appended r n (digit_value (get_or s i 0))) ≡ Some m
    → continued r (Some m) (drop (i + 1) s) ≡ continued r (Some n) (drop i s)
still_below limit r n m s i h e =
    sym (one_more r n s i h ∙ ap (λ o. continued r o (drop (i + 1) s)) (kept limit m (appended r n (digit_value (get_or s i 0))) e))

-- a letter that is no digit, or a digit too many
pub no_number : (limit r n : ℕ) (s : List ℕ) (i : ℕ) → 0 < r → i < length s
    → below limit (appended r n (digit_value (get_or s i 0))) ≡ None → below limit (continued r (Some n) (drop i s)) ≡ None
no_number limit r n s i p h e =
    let o : Option ℕ = appended r n (digit_value (get_or s i 0)) in
    ap (below limit) (one_more r n s i h) ∙ stays_beyond limit r o (drop (i + 1) s) p (beyond limit o e)

-- after the last digit
pub ended : (limit r n : ℕ) (s : List ℕ) (i : ℕ) → length s ≤ i → n < limit → below limit (continued r (Some n) (drop i s)) ≡ Some n
ended limit r n s i h l =
    ap (below limit) (at_drop_all (continued r (Some n)) s i h) ∙ cond-true (ltb n limit) (Some n) None (lt-ltb n limit l)

-- a number that is too large for the library is too large for us
positive_none : (o : Option ℕ) → below (2 ^ 16) o ≡ None → positive o ≡ None
positive_none None e = refl
positive_none (Some n) e = grind (arith, nat_tests)

digit_read : (r n c : ℕ) → r ≤ 16 → letter_value c < r → appended r n (digit_value c) ≡ Some (n * r + letter_value c)
digit_read r n c h l = grind (arith, nat_tests)

digit_none : (r n c : ℕ) → r ≤ 16 → r ≤ letter_value c → appended r n (digit_value c) ≡ None
digit_none r n c h l = grind (arith, nat_tests)

all_read : (r n : ℕ) (s : List ℕ) → r ≤ 16 → AllDigits r s → continued r (Some n) s ≡ Some (digits_value_after r n s)
all_read r n [] h d = refl
all_read r n (c ∷ s) h d =
    ap (λ o. continued r o s) (digit_read r n c h d.0) ∙ all_read r (n * r + letter_value c) s h d.1

all_digits : (r n m : ℕ) (s : List ℕ) → r ≤ 16 → continued r (Some n) s ≡ Some m → AllDigits r s
all_digits r n m [] h e = tt
all_digits r n m (c ∷ s) h e =
    elim (cases_lt (letter_value c) r) [
      | inl less ↦
          (less, all_digits r (n * r + letter_value c) m s h (sym (ap (λ o. continued r o s) (digit_read r n c h less)) ∙ e))
      | inr not_less ↦ cc (sym (ap (λ o. continued r o s) (digit_none r n c h not_less)) ∙ e)
    ]

numeral_read : (r : ℕ) (s : List ℕ) → r ≤ 16 → IsNumeral r s → numeral r s ≡ Some (digits_value r s)
numeral_read r [] h d = absurd (omega (arith, d.0))
numeral_read r (c ∷ s) h d = all_read r 0 (c ∷ s) h d.1

is_numeral : (r m : ℕ) (s : List ℕ) → r ≤ 16 → numeral r s ≡ Some m → IsNumeral r s
is_numeral r m [] h e = cc e
is_numeral r m (c ∷ s) h e = (omega arith, all_digits r 0 m (c ∷ s) h e)

none_below : (limit : ℕ) (o : Option ℕ) → ((n : ℕ) → o ≡ Some n → n < limit → ⊥) → below limit o ≡ None
none_below limit None h = refl
none_below limit (Some n) h =
    elim (cases_lt n limit) [
      | inl less ↦ absurd (h n refl less)
      | inr not_less ↦ grind (arith, nat_tests)
    ]

some_below : (limit n : ℕ) → n < limit → below limit (Some n) ≡ Some n
some_below limit n h = grind (arith, nat_tests)

-- what the library's reading answers: f of the number, where the digits write one that is below the limit
pub read : {A E : Type 0} (r limit : ℕ) (s : List ℕ) (f : ℕ → A) (P : Type 0) (q : Result A E) → r ≤ 16
    → P ↔ (IsNumeral r s × (digits_value r s < limit)) → OkIff q P (f (digits_value r s))
    → result_ok q ≡ option_map f (below limit (numeral r s))
read r limit s f P (Ok x) h same ok =
    let fits = same.0 ok.0 in
    ap Some ok.1 ∙ sym (ap (option_map f) (ap (below limit) (numeral_read r s h fits.0) ∙ some_below limit (digits_value r s) fits.1))
read r limit s f P (Err e) h same err =
    sym (ap (option_map f) (none_below limit (numeral r s) (λ n is less.
    let digits = is_numeral r n s h is in
    let value : digits_value r s ≡ n = cc (sym (numeral_read r s h digits) ∙ is) in
    err (same.1 (digits, omega (arith, value, less))))))

-- without a sign
pub read_unsigned : {E : Type 0} (k r : ℕ) (s : List ℕ) (q : Result ℕ E) → r ≤ 16 → get_or s 0 0 ≢ 43
    → ParsesUnsigned k r s q → result_ok q ≡ below (2 ^ k) (numeral r s)
read_unsigned k r s q h no_plus parsed =
    let plain = rw (without_leading_plus_none s no_plus) at parsed in
    read r (2 ^ k) s (λ n. n) (IsNumeral r s × (digits_value r s < 2 ^ k)) q h (λ p. p, λ p. p) plain
    ∙ option_map_id (below (2 ^ k) (numeral r s))

-- without a minus sign a number that is too large for the library is none
pub none_plain : (s : List ℕ) → ((rest : List ℕ) → s ≢ encode 45 ++ rest) → below (2 ^ 16) (numeral 10 s) ≡ None → integer s ≡ None
unfolding encode
none_plain [] h e = refl
none_plain (c ∷ s) h e =
    cond-false (eqb c 45) (negative (numeral 10 s)) (positive (numeral 10 (c ∷ s))) (ne_eqb c 45 (λ d. h s (ap (λ b. b ∷ s) d)))
    ∙ positive_none (numeral 10 (c ∷ s)) e
