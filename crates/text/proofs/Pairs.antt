-- Reading and writing octets one pair of digits after the other.
use Rattle.std.proofs.Common.{◌≡◌, ◌≢◌, ℕ, zero, suc, ◌+◌, ◌-◌, ◌*◌, ◌/◌, ◌%◌, ◌<◌, ◌≤◌, List, [], ◌∷◌, ◌++◌, length, length-set, take, drop, get_or, Some, None, Option, sym, refl, ap, ap₂, ◌∙◌, arith}
use Rattle.std.specs.Prelude.{EachIndex, slice_index, slice_range, slice_set, IsAscii}
use Rattle.std.specs.Option.{option_map}
use Rattle.std.proofs.lemmas.Bool.Decides.{nat_tests}
use Rattle.std.proofs.lemmas.List.{drop_more, drop_all, take_more, take_all, take_more_set, drop-take, take-take, take-append-drop, append_assoc, append-nil}
use Rattle.std.proofs.lemmas.Str.{IsUtf8-from_ascii}
use Rattle.std.proofs.lemmas.Str.Ascii.{IsAscii-nil, IsAscii-cons}
use Rattle.std.specs.Str.{IsUtf8}
use Rattle.text.specs.Digit.{digit, digit_value}
use Rattle.text.specs.Hexadecimal.{paired, before, octets_read, hexadecimal_text}

-- ---- reading

none_before : (octet : Option ℕ) → before octet None ≡ None
none_before None = refl
none_before (Some o) = refl

pub odd_none : (s : List ℕ) → length s % 2 ≢ 0 → octets_read s ≡ None
odd_none [] h = absurd (h refl)
odd_none (a ∷ []) h = refl
odd_none (a ∷ b ∷ s) h =
    let pair : Option ℕ = paired (digit_value a) (digit_value b) in
    ap (before pair) (odd_none s (λ e. h (omega arith))) ∙ none_before pair

abbrev pub AreDigits : List ℕ → Type 0
AreDigits s = EachIndex s (λ k. digit_value (slice_index s k) ≢ None)

-- a pair is none where one of its letters is no digit, and else it is an octet
paired_none : (high low : Option ℕ) → paired high low ≡ None → high ≢ None → low ≢ None → ⊥
paired_none None low e h l = h refl
paired_none (Some high) None e h l = l refl
paired_none (Some high) (Some low) e h l = cc e

none_paired : (high : Option ℕ) → paired high None ≡ None
none_paired None = refl
none_paired (Some high) = refl

first_none : (octet : Option ℕ) (others : Option (List ℕ)) → before octet others ≡ None → octet ≢ None → others ≡ None
first_none None others e h = absurd (h refl)
first_none (Some octet) None e h = refl
first_none (Some octet) (Some others) e h = cc e

-- digits in pairs are read
pub digits_some : (s : List ℕ) → length s % 2 ≡ 0 → AreDigits s → octets_read s ≢ None
digits_some [] e h none = cc none
digits_some (a ∷ []) e h none = absurd (omega (arith, e))
digits_some (a ∷ b ∷ s) e h none =
    let pair : paired (digit_value a) (digit_value b) ≢ None = λ p. paired_none _ _ p (h 0 (omega arith)) (h 1 (omega arith)) in
    digits_some s (omega (arith, e)) (λ k l. h (suc (suc k)) (omega (arith, l))) (first_none _ _ none pair)

-- what is read is digits alone
read_digits : (s : List ℕ) → octets_read s ≢ None → AreDigits s
read_digits [] some k l = absurd (omega (arith, l))
read_digits (a ∷ []) some k l = absurd (some refl)
read_digits (a ∷ b ∷ s) some zero l = λ e. some (ap (λ d. before (paired d (digit_value b)) (octets_read s)) e)
read_digits (a ∷ b ∷ s) some (suc zero) l = λ e.
    some (ap (λ d. before (paired (digit_value a) d) (octets_read s)) e ∙ ap (λ p. before p (octets_read s)) (none_paired (digit_value a)))
read_digits (a ∷ b ∷ s) some (suc (suc k)) l = read_digits s (λ e. some (ap (before (paired (digit_value a) (digit_value b))) e ∙ none_before (paired (digit_value a) (digit_value b)))) k (omega (arith, l))

is_none : (o : Option (List ℕ)) → (o ≢ None → ⊥) → o ≡ None
is_none None h = refl
is_none (Some os) h = absurd (h (λ e. cc e))

pub no_digits_none : (s : List ℕ) → (AreDigits s → ⊥) → octets_read s ≡ None
no_digits_none s h = is_none (octets_read s) (λ some. h (read_digits s some))

-- octets read so far, and those to come
abbrev pub followed : List ℕ → Option (List ℕ) → Option (List ℕ)
followed os others = option_map (λ more. os ++ more) others

followed_first : (others : Option (List ℕ)) → followed [] others ≡ others
followed_first None = refl
followed_first (Some os) = refl

pub nothing_read : (os s : List ℕ) → followed (take 0 os) (octets_read (drop 0 s)) ≡ octets_read s
nothing_read os s = followed_first (octets_read s)

followed_more : (os : List ℕ) (o : ℕ) (others : Option (List ℕ)) → followed os (before (Some o) others) ≡ followed (os ++ (o ∷ [])) others
followed_more os o None = refl
followed_more os o (Some more) = ap Some (sym (append_assoc os (o ∷ []) more))

two_letters : (s : List ℕ) (i : ℕ) → i + 1 < length s → drop i s ≡ get_or s i 0 ∷ (get_or s (i + 1) 0 ∷ drop (i + 2) s)
two_letters s i h =
    let l : i < length s = omega arith in
    let e : (i + 1) + 1 ≡ i + 2 = omega arith in
    drop_more s i 0 l ∙ ap (λ t. get_or s i 0 ∷ t) (drop_more s (i + 1) 0 h ∙ ap (λ n. get_or s (i + 1) 0 ∷ drop n s) e)

-- the next two letters read
next_pair : (s os : List ℕ) (i : ℕ) (o : Option ℕ) → i + 1 < length s
    → o ≡ paired (digit_value (get_or s i 0)) (digit_value (get_or s (i + 1) 0))
    → followed os (octets_read (drop i s)) ≡ followed os (before o (octets_read (drop (i + 2) s)))
next_pair s os i o h e =
    ap (λ t. followed os (octets_read t)) (two_letters s i h) ∙ ap (λ p. followed os (before p (octets_read (drop (i + 2) s)))) (sym e)

-- two letters that write an octet, written at its place
pub pair_read : (s os : List ℕ) (i o : ℕ) → i < length os → length os ≡ length s / 2
    → Some o ≡ paired (digit_value (get_or s (2 * i) 0)) (digit_value (get_or s (2 * i + 1) 0))
    → followed (take i os) (octets_read (drop (2 * i) s)) ≡ octets_read s
    → followed (take (i + 1) (slice_set os i o)) (octets_read (drop (2 * (i + 1)) s)) ≡ octets_read s
pair_read s os i o l h e same =
    let n : 2 * (i + 1) ≡ 2 * i + 2 = omega arith in
    ap₂ (λ t m. followed t (octets_read (drop m s))) (take_more_set os i o l) n
    ∙ sym (next_pair s (take i os) (2 * i) (Some o) (omega arith) e ∙ followed_more (take i os) o (octets_read (drop (2 * i + 2) s)))
    ∙ same

-- two letters that write none
pub pair_refused : (s os : List ℕ) (i : ℕ) → 2 * i + 1 < length s
    → None ≡ paired (digit_value (get_or s (2 * i) 0)) (digit_value (get_or s (2 * i + 1) 0))
    → followed (take i os) (octets_read (drop (2 * i) s)) ≡ None
pair_refused s os i h e = next_pair s (take i os) (2 * i) None h e

-- no letter is left
pub all_read : (s os : List ℕ) (i : ℕ) → length s ≤ 2 * i → length os ≤ i
    → followed (take i os) (octets_read (drop (2 * i) s)) ≡ Some os
all_read s os i g l =
    ap (λ t. followed (take i os) (octets_read t)) (drop_all (2 * i) s g) ∙ ap Some (append-nil (take i os) ∙ take_all i os l)

-- ---- writing

-- one text behind the other
hexadecimal_append : (xs ys : List ℕ) → hexadecimal_text (xs ++ ys) ≡ hexadecimal_text xs ++ hexadecimal_text ys
hexadecimal_append [] ys = refl
hexadecimal_append (x ∷ xs) ys = ap (λ t. digit (x / 16) ∷ (digit (x % 16) ∷ t)) (hexadecimal_append xs ys)

-- two letters written
two_written : (t : List ℕ) (i a b : ℕ) → i + 1 < length t → take (i + 2) (slice_set (slice_set t i a) (i + 1) b) ≡ take i t ++ (a ∷ (b ∷ []))
two_written t i a b h =
    let room : i + 1 < length (slice_set t i a) = omega (arith, length-set t i a, h) in
    let n : i + 2 ≡ (i + 1) + 1 = omega arith in
    ap (λ m. take m (slice_set (slice_set t i a) (i + 1) b)) n
    ∙ (take_more_set (slice_set t i a) (i + 1) b room
    ∙ (ap (λ u. u ++ (b ∷ [])) (take_more_set t i a (omega (arith, h))) ∙ append_assoc (take i t) (a ∷ []) (b ∷ [])))

-- an octet's two digits written
pub pair_written : (t os : List ℕ) (i a b : ℕ) → i < length os → 2 * i + 1 < length t
    → a ≡ digit (get_or os i 0 / 16) → b ≡ digit (get_or os i 0 % 16)
    → take (2 * i) t ≡ hexadecimal_text (take i os)
    → take (2 * (i + 1)) (slice_set (slice_set t (2 * i) a) (2 * i + 1) b) ≡ hexadecimal_text (take (i + 1) os)
pair_written t os i a b h room high low same =
    let n : 2 * (i + 1) ≡ 2 * i + 2 = omega arith in
    ap (λ m. take m (slice_set (slice_set t (2 * i) a) (2 * i + 1) b)) n
    ∙ (two_written t (2 * i) a b room
    ∙ (ap₂ (λ u w. u ++ w) same (ap₂ (λ x y. x ∷ (y ∷ [])) high low)
    ∙ (sym (hexadecimal_append (take i os) (get_or os i 0 ∷ [])) ∙ ap hexadecimal_text (sym (take_more os i 0 h)))))

-- all octets written
pub all_written : (t os : List ℕ) (i : ℕ) → i ≤ length os → length os ≤ i
    → take (2 * i) t ≡ hexadecimal_text (take i os) → take (2 * length os) t ≡ hexadecimal_text os
all_written t os i le ge same =
    let n : length os ≡ i = omega (arith, le, ge) in
    ap (λ m. take (2 * m) t) n ∙ (same ∙ ap hexadecimal_text (take_all i os ge))

-- some octets written, and then more of them
pub part_written : (os : List ℕ) (i j : ℕ) → i ≤ j
    → hexadecimal_text (take i os) ++ hexadecimal_text (slice_range os i j) ≡ hexadecimal_text (take j os)
part_written os i j h =
    let n : i + (j - i) ≡ j = omega (arith, h) in
    let part : drop i (take j os) ≡ take (j - i) (drop i os) = ap (λ m. drop i (take m os)) (sym n) ∙ drop-take i (j - i) os in
    let first : take i (take j os) ≡ take i os = take-take i j os h in
    ap₂ (λ t u. hexadecimal_text t ++ hexadecimal_text u) (sym first) (sym part)
    ∙ (sym (hexadecimal_append (take i (take j os)) (drop i (take j os))) ∙ ap hexadecimal_text (take-append-drop i (take j os)))

-- what is written is text
ascii_digit : (v : ℕ) → v < 16 → digit v < 128
ascii_digit v h = grind (arith, nat_tests)

ascii_text : (os : List ℕ) → ((k : ℕ) → get_or os k 0 < 256) → IsAscii (hexadecimal_text os)
ascii_text [] h = IsAscii-nil
ascii_text (o ∷ os) h =
    IsAscii-cons (digit (o / 16)) (digit (o % 16) ∷ hexadecimal_text os) (ascii_digit (o / 16) (omega (arith, h 0)))
    (IsAscii-cons (digit (o % 16)) (hexadecimal_text os) (ascii_digit (o % 16) (omega arith)) (ascii_text os (λ k. h (suc k))))

pub is_text : (os : List ℕ) → ((k : ℕ) → get_or os k 0 < 256) → IsUtf8 (hexadecimal_text os)
is_text os h = IsUtf8-from_ascii (hexadecimal_text os) (ascii_text os h)
