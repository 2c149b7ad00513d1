-- The draw record: a tag octet and a Double, nine octets in all.
use Rattle.std.specs.Prelude.{ℕ, Bool, true, cond, ◌&&◌, List, ◌∷◌, take, drop, Some, None, Ok, Err, Option, Result, ◌==◌, from_bits, nat_lt, slice_index, to_bits, Float}
use Rattle.std.specs.Float.Ieee.{fits}
use Rattle.std.specs.Float.{float_is_finite, binary64}
use Rattle.record.specs.declared.draw.Draw.{Draw}
use Rattle.record.specs.declared.draw.Draw.TheVariants.{Stop, Run, Preset}
use Rattle.record.specs.declared.fault.EncodeRefusal.{EncodeRefusal}
use Rattle.record.specs.declared.fault.EncodeRefusal.TheVariants.{Unsound}
use Rattle.record.specs.declared.fault.RecordCause.TheVariants.{Tag, NotFinite, NotZero}
use Rattle.record.specs.declared.fault.RecordFault.{RecordFault}
use Rattle.record.specs.Calls.{fault}
use Rattle.record.specs.Kind.{Format}
use Rattle.record.specs.Octets.{le, un}

-- a number is sound if it is finite and has the width of a Double
abbrev pub number_sound : Float → Bool
number_sound x = float_is_finite x && fits binary64 x

abbrev pub draw_sound : Draw → Bool
draw_sound Stop = true
draw_sound (Run rate) = number_sound rate
draw_sound (Preset litres) = number_sound litres

-- a tag, and then the bits of a number
abbrev pub number_octets : ℕ → Float → List ℕ
number_octets tag x = tag ∷ le 8 (to_bits binary64 x)

abbrev pub draw_octets : Draw → List ℕ
draw_octets Stop = 0 ∷ le 8 0
draw_octets (Run rate) = number_octets 1 rate
draw_octets (Preset litres) = number_octets 2 litres

-- the number of these bits, where it is finite
abbrev pub double_read : ℕ → Option Float
double_read bits = cond (float_is_finite (from_bits binary64 bits)) (Some (from_bits binary64 bits)) None

-- the record of tag 1 or 2 and a number
abbrev pub with_number : ℕ → Option Float → Result Draw RecordFault
with_number tag None = fault NotFinite 1
with_number tag (Some x) = Ok (cond (tag == 1) (Run x) (Preset x))

-- under tag 0 every octet of the Double is zero
abbrev pub draw_of : ℕ → ℕ → Result Draw RecordFault
draw_of tag bits =
    cond (nat_lt 2 tag) (fault Tag 0)
    (cond (tag == 0) (cond (bits == 0) (Ok Stop) (fault NotZero 1)) (with_number tag (double_read bits)))

abbrev pub draw_parsed : List ℕ → Result Draw RecordFault
draw_parsed s = draw_of (slice_index s 0) (un (take 8 (drop 1 s)))

abbrev pub draw_format : Format Draw
draw_format = record {
  len = 9;
  structure = 0x44524157;
  sound = draw_sound;
  octets = draw_octets;
  parsed = draw_parsed;
  substitute = Stop;
}

-- a tag and a number written, where the number is sound
abbrev pub number_written : ℕ → Float → Result (List ℕ) EncodeRefusal
number_written tag x = cond (number_sound x) (Ok (number_octets tag x)) (Err Unsound)

-- a sound record written
abbrev pub draw_written : Draw → Result (List ℕ) EncodeRefusal
draw_written d = cond (draw_sound d) (Ok (draw_octets d)) (Err Unsound)
