-- What `{:016X}` writes, by the words of specs/.
use Rattle.std.proofs.Common.{◌≡◌, ℕ, suc, zero, ◌+◌, ◌-◌, ◌*◌, ◌/◌, ◌%◌, ◌^◌, ◌<◌, ◌≤◌, true, false, List, [], ◌∷◌, ◌++◌, length, sym, ap, refl, ◌∙◌, arith, ⊎_elim}
use Rattle.std.proofs.DigitsParse.{digits_onto-nil, digits_onto_last, digits_onto_step}
use Rattle.std.proofs.lemmas.Bool.{cases_lt}
use Rattle.std.proofs.Math.ListN.{replicate}
use Rattle.std.proofs.Math.Nat.{pow-suc}
use Rattle.std.proofs.lemmas.List.{append-nil}
use Rattle.std.specs.Fmt.{digit_glyph, digits, digits_onto, padded_integral, format_spec, char_count}
use Rattle.script.specs.Records.{capital, capital_text, from_highest}

-- the library's digits are ours
pub capital_glyph : (d : ℕ) → digit_glyph true d ≡ capital d
capital_glyph d = grind arith

-- the last k digits of a number, and then a text
abbrev wide : ℕ → ℕ → List ℕ → List ℕ
wide zero n acc = acc
wide (suc k) n acc = wide k (n / 16) (digit_glyph true (n % 16) ∷ acc)

turned : (k : ℕ) (acc : List ℕ) → 48 ∷ (replicate k 48 ++ acc) ≡ replicate k 48 ++ (48 ∷ acc)
turned zero acc = refl
turned (suc k) acc = ap (λ t. 48 ∷ t) (turned k acc)

zeros : (k : ℕ) (acc : List ℕ) → replicate k 48 ++ acc ≡ wide k 0 acc
zeros zero acc = refl
zeros (suc k) acc = turned k acc ∙ zeros k (48 ∷ acc)

last_digit : (k j n : ℕ) (acc : List ℕ) → 0 < j → n < 16
    → replicate (suc k + length acc - length (digits_onto j 16 true n acc)) 48 ++ digits_onto j 16 true n acc ≡ wide (suc k) n acc
last_digit k j n acc more small =
    let written = digit_glyph true (n % 16) ∷ acc in
    let none : n / 16 ≡ 0 = omega arith in
    let left : suc k + length acc - length written ≡ k = omega arith in
    rw (digits_onto_last 16 true n acc j more none, left, none) (zeros k written)

-- digits behind zeros
padded_wide : (k j n : ℕ) (acc : List ℕ) → n < 16 ^ suc k → suc k ≤ j
    → replicate (suc k + length acc - length (digits_onto j 16 true n acc)) 48 ++ digits_onto j 16 true n acc ≡ wide (suc k) n acc
padded_wide zero j n acc small le = last_digit 0 j n acc (omega arith) small
padded_wide (suc k) j n acc small le = ⊎_elim
    (λ one. last_digit (suc k) j n acc (omega arith) one)
    (λ more.
    let written = digit_glyph true (n % 16) ∷ acc in
    let power : 16 ^ suc (suc k) ≡ 16 ^ suc k * 16 = pow-suc 16 (suc k) in
    let rest = padded_wide k (j - 1) (n / 16) written (omega (arith, power)) (omega arith) in
    let room : suc (suc k) + length acc ≡ suc k + length written = omega arith in
    rw (digits_onto_step 16 true n acc j (omega arith) (λ e. omega arith), room) rest)
    (cases_lt n 16)

-- the digits by octets
wide_octet : (k a b : ℕ) (acc : List ℕ) → a / 256 ≡ b → wide (suc (suc k)) a acc ≡ wide k b (capital (a % 256 / 16) ∷ (capital (a % 256 % 16) ∷ acc))
wide_octet k a b acc e =
    let rest : a / 16 / 16 ≡ b = omega (arith, e) in
    let high : a / 16 % 16 ≡ a % 256 / 16 = omega arith in
    let low : a % 16 ≡ a % 256 % 16 = omega arith in
    rw (rest, high, low, capital_glyph (a % 256 / 16), capital_glyph (a % 256 % 16)) refl

wide_octets : (n : ℕ) → wide 16 n [] ≡ capital_text (from_highest n)
wide_octets n =
    wide_octet 14 n (n / 2 ^ 8) _ refl ∙ (wide_octet 12 (n / 2 ^ 8) (n / 2 ^ 16) _ (omega arith)
    ∙ (wide_octet 10 (n / 2 ^ 16) (n / 2 ^ 24) _ (omega arith) ∙ (wide_octet 8 (n / 2 ^ 24) (n / 2 ^ 32) _ (omega arith)
    ∙ (wide_octet 6 (n / 2 ^ 32) (n / 2 ^ 40) _ (omega arith) ∙ (wide_octet 4 (n / 2 ^ 40) (n / 2 ^ 48) _ (omega arith)
    ∙ (wide_octet 2 (n / 2 ^ 48) (n / 2 ^ 56) _ (omega arith) ∙ wide_octet 0 (n / 2 ^ 56) (n / 2 ^ 64) _ (omega arith)))))))

behind_zeros : (ds : List ℕ) → padded_integral (format_spec 32 0 4 16 (2 ^ 64 - 1)) false [] ds ≡ replicate (16 - length ds) 48 ++ ds
unfolding padded_integral char_count
behind_zeros ds =
    let room : 16 - length ds - 0 - 0 ≡ 16 - length ds = omega arith in
    rw (append-nil ds) (ap (λ m. replicate m 48 ++ ds) room)

sixteen_wide : (j n : ℕ) → n < 2 ^ 64 → 16 ≤ j
    → replicate (16 - length (digits_onto j 16 true n [])) 48 ++ digits_onto j 16 true n [] ≡ wide 16 n []
sixteen_wide j n small le =
    let ds = digits_onto j 16 true n [] in
    let room : 16 - length ds ≡ 16 + 0 - length ds = omega arith in
    ap (λ m. replicate m 48 ++ ds) room ∙ padded_wide 15 j n [] small le

pub sixteen_digits : (n : ℕ) → n < 2 ^ 64
    → padded_integral (format_spec 32 0 4 16 (2 ^ 64 - 1)) false [] (digits 16 true n) ≡ capital_text (from_highest n)
sixteen_digits n small =
    behind_zeros (digits 16 true n)
    ∙ (ap (λ ds. replicate (16 - length ds) 48 ++ ds) (sym (digits_onto-nil 16 true n))
    ∙ (sixteen_wide 64 n small (omega arith) ∙ wide_octets n))
