-- The text of records.
use Rattle.std.specs.Prelude.{ℕ, ◌+◌, ◌-◌, ◌/◌, ◌%◌, ◌^◌, Bool, cond, List, [], ◌∷◌, ◌++◌, codes, decimal, nat_lt, to_bits, Float}
use Rattle.std.specs.Float.{binary64}
use Rattle.std.specs.Fmt.{signed_decimal}
use Rattle.record.specs.declared.draw.Draw.{Draw}
use Rattle.record.specs.declared.draw.Draw.TheVariants.{Stop, Run, Preset}
use Rattle.record.specs.declared.meter.Meter.{Meter}
use Rattle.script.specs.declared.line.Given.{Given}
use Rattle.script.specs.declared.line.Given.TheVariants as given

abbrev pub validity : Bool → List ℕ
validity valid = cond valid (codes "valid") (codes "invalid")

-- pulses, hundredths of a degree, and whether both are valid
abbrev pub meter_text : Meter → List ℕ
meter_text m = decimal m.pulses ++ (codes " " ++ (signed_decimal m.centidegrees ++ (codes " " ++ validity m.valid)))

-- the digit that counts so much, a capital letter from 10 on
abbrev pub capital : ℕ → ℕ
capital v = cond (nat_lt v 10) (48 + v) (65 + (v - 10))

-- the text of octets, two digits each
abbrev pub capital_text : List ℕ → List ℕ
capital_text [] = []
capital_text (octet ∷ os) = capital (octet / 16) ∷ (capital (octet % 16) ∷ capital_text os)

-- the octets of 64 bits, the highest first
abbrev pub from_highest : ℕ → List ℕ
from_highest n =
    n / 2 ^ 56 % 256 ∷ (n / 2 ^ 48 % 256 ∷ (n / 2 ^ 40 % 256 ∷ (n / 2 ^ 32 % 256
    ∷ (n / 2 ^ 24 % 256 ∷ (n / 2 ^ 16 % 256 ∷ (n / 2 ^ 8 % 256 ∷ (n % 256 ∷ [])))))))

-- the bits of a number, 0x and 16 digits
abbrev pub double_text : Float → List ℕ
double_text x = codes "0x" ++ capital_text (from_highest (to_bits binary64 x))

abbrev pub draw_text : Draw → List ℕ
draw_text Stop = codes "stop"
draw_text (Run rate) = codes "run " ++ double_text rate
draw_text (Preset litres) = codes "preset " ++ double_text litres

-- a record of one kind or the other
abbrev pub given_text : Given → List ℕ
given_text (given.Meter m) = meter_text m
given_text (given.Draw d) = draw_text d
