-- The meter record: a count of pulses, a temperature and a Boolean octet, seven octets in all.
use Rattle.std.specs.Prelude.{ℕ, ◌^◌, Bool, false, cond, ◌&&◌, List, [], ◌∷◌, ◌++◌, take, drop, ℤ, pos, Ok, Result, ◌==◌, nat_lt, slice_index}
use Rattle.std.specs.Int.Signed.{mag}
use Rattle.std.specs.Int.{w16}
use Rattle.std.proofs.Common.{of_z, to_z}
use Rattle.record.specs.declared.fault.RecordCause.TheVariants.{Boolean}
use Rattle.record.specs.declared.fault.RecordFault.{RecordFault}
use Rattle.record.specs.declared.meter.Meter.{Meter}
use Rattle.record.specs.Calls.{fault}
use Rattle.record.specs.Kind.{Format}
use Rattle.record.specs.Octets.{le, un, bit}

-- the count has 32 bits, and the temperature 16
abbrev pub fields_fit : ℕ → ℤ → Bool
fields_fit pulses centidegrees = nat_lt pulses (2 ^ 32) && nat_lt (mag centidegrees) (2 ^ 15)

-- a record whose fields fit is sound: every one that a program can hold
abbrev pub meter_sound : Meter → Bool
meter_sound m = fields_fit m.pulses m.centidegrees

-- four octets of pulses, two of temperature (in two's complement) and one of validity
abbrev pub meter_octets : Meter → List ℕ
meter_octets m = le 4 m.pulses ++ le 2 (of_z w16 m.centidegrees) ++ bit m.valid ∷ []

-- only a Boolean octet above 1 fails to decode
abbrev pub meter_parsed : List ℕ → Result Meter RecordFault
meter_parsed s =
    cond (nat_lt 1 (slice_index s 6)) (fault Boolean 6)
    (Ok (record { pulses = un (take 4 s); centidegrees = to_z w16 (un (take 2 (drop 4 s))); valid = (slice_index s 6 == 1) }))

abbrev pub meter_format : Format Meter
meter_format = record {
  len = 7;
  structure = 0x4D455452;
  sound = meter_sound;
  octets = meter_octets;
  parsed = meter_parsed;
  substitute = record { pulses = 0; centidegrees = pos 0; valid = false };
}
