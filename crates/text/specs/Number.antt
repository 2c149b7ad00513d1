-- The number that a text writes, and none where it writes no number.
use Rattle.std.specs.Prelude.{ℕ, ◌+◌, ◌*◌, ◌^◌, cond, ◌&&◌, List, [], ◌∷◌, drop, ℤ, pos, neg_ℤ, Some, None, Option, ◌==◌, nat_lt, slice_index}
use Rattle.std.specs.Option.{option_map}
use Rattle.text.specs.Digit.{digit_value}

-- a number, if it is below a limit
abbrev pub below : ℕ → Option ℕ → Option ℕ
below limit None = None
below limit (Some n) = cond (nat_lt n limit) (Some n) None

-- a number with a digit behind it, if the radix has that digit
abbrev pub appended : ℕ → ℕ → Option ℕ → Option ℕ
appended radix n None = None
appended radix n (Some d) = cond (nat_lt d radix) (Some (n * radix + d)) None

-- a number with more digits behind it
abbrev pub continued : ℕ → Option ℕ → List ℕ → Option ℕ
continued radix None s = None
continued radix (Some n) [] = Some n
continued radix (Some n) (c ∷ s) = continued radix (appended radix n (digit_value c)) s

-- the number that digits write, however large; at least one digit
abbrev pub numeral : ℕ → List ℕ → Option ℕ
numeral radix [] = None
numeral radix (c ∷ s) = continued radix (Some 0) (c ∷ s)

-- hexadecimal after 0x, else decimal; below 2 ^ 64
abbrev pub number : List ℕ → Option ℕ
number s = below (2 ^ 64) (cond (slice_index s 0 == 48 && slice_index s 1 == 120) (numeral 16 (drop 2 s)) (numeral 10 s))

-- a number up to 32767, as it is
abbrev pub positive : Option ℕ → Option ℤ
positive o = option_map pos (below 32768 o)

-- a number up to 32768, taken below zero
abbrev pub negative : Option ℕ → Option ℤ
negative o = option_map (λ n. neg_ℤ (pos n)) (below 32769 o)

-- decimal, below zero after a minus sign
abbrev pub integer : List ℕ → Option ℤ
integer s = cond (slice_index s 0 == 45) (negative (numeral 10 (drop 1 s))) (positive (numeral 10 s))
