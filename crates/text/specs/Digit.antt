-- Digits, as the octets of a text.
use Rattle.std.specs.Prelude.{ℕ, ◌+◌, ◌-◌, cond, ◌&&◌, Some, None, Option, nat_le, nat_lt}

-- what a digit counts: 0 to 9, and a to f or A to F as 10 to 15
abbrev pub digit_value : ℕ → Option ℕ
digit_value c =
    cond (nat_le 48 c && nat_le c 57) (Some (c - 48))
    (cond (nat_le 97 c && nat_le c 102) (Some (c - 97 + 10))
    (cond (nat_le 65 c && nat_le c 70) (Some (c - 65 + 10)) None))

-- the digit that counts so much, a small letter from 10 on
abbrev pub digit : ℕ → ℕ
digit v = cond (nat_lt v 10) (48 + v) (97 + (v - 10))
