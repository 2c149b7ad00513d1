-- The litre: what the meter tells, and when the bay's draw program shuts the nozzle.
use Rattle.std.specs.Prelude.{ℕ, ◌-◌, ◌*◌, ◌/◌, ◌^◌, min, Bool, true, cond, not, ◌&&◌, pos, Some, None, Option, nat_le}
use Rattle.draw.specs.declared.bay.Bay.{Bay}
use Rattle.draw.specs.declared.bay.Shut.{Shut}
use Rattle.record.specs.declared.meter.Meter.{Meter}
use Rattle.consumer.specs.declared.event.Event.{Event}
use Rattle.consumer.specs.declared.event.Event.TheVariants.{Disabled, Started, Expired, Nothing, Ignored, Fault, Accepted}
use Rattle.consumer.specs.declared.state.Shown.{Shown}

-- the pulses of this many milliseconds at 40 litres a minute, a pulse a millilitre
abbrev pub pulses : ℕ → ℕ
pulses time = time * 2 / 3

-- what the meter tells then: a count of 32 bits at 15.1 degrees, valid
abbrev pub reading : ℕ → Meter
reading time = record { pulses = min (pulses time) (2 ^ 32 - 1); centidegrees = pos 1510; valid = true }

-- a nozzle that nobody has shut
abbrev pub opened : Bay
opened = record { asked_at = 0; age = 0; shut = None }

-- when the waiting request was made, and how old the one was that the shown count answers
abbrev pub asked_after : ℕ → Event → Bay → Bay
asked_after time Disabled b = b
asked_after time Started b = record { asked_at = time; age = b.age; shut = b.shut }
asked_after time Expired b = record { asked_at = time; age = b.age; shut = b.shut }
asked_after time Nothing b = b
asked_after time Ignored b = b
asked_after time (Fault fault) b = b
asked_after time Accepted b = record { asked_at = time; age = time - b.asked_at; shut = b.shut }

-- a count of process values has reached the litre
abbrev pub reached : Shown Meter → Bool
reached o = not o.fsv_activated && nat_le 1000 o.safety_data.pulses

-- the nozzle is shut once: what was shut stays as it is
abbrev pub shut_on : ℕ → ℕ → ℕ → Bool → Option Shut → Option Shut
shut_on time count age full (Some shut) = Some shut
shut_on time count age full None = cond full (Some (record { time = time; count = count; age = age })) None

abbrev pub shutting : ℕ → Shown Meter → Bay → Bay
shutting time o b = record {
  asked_at = b.asked_at;
  age = b.age;
  shut = shut_on time o.safety_data.pulses b.age (reached o) b.shut;
}

-- what the draw program makes of a cycle's answer
abbrev pub taken : ℕ → Shown Meter → Event → Bay → Bay
taken time o event b = shutting time o (asked_after time event b)
