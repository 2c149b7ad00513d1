-- Worked figures: what the rules give at the numbers that stand here.
use Rattle.std.specs.Prelude.{◌≡◌, ℕ, true, false, List, [], ◌∷◌, pos, negsuc, Some}
use Rattle.std.specs.Float.{fin}
use Rattle.consumer.specs.declared.event.Turn.TheVariants.{Fault}
use Rattle.consumer.specs.declared.fault.CycleFault.{CycleFault}
use Rattle.consumer.specs.declared.state.State.{State}
use Rattle.consumer.specs.declared.state.TimedRequest.{TimedRequest}
use Rattle.consumer.specs.Steps.{has_expired, after_turn}
use Rattle.message.specs.declared.parameters.Parameters.{Parameters}
use Rattle.message.specs.Identity.{identity_3}
use Rattle.message.specs.Number.{next_number}
use Rattle.record.specs.declared.draw.Draw.TheVariants.{Run}
use Rattle.record.specs.declared.fault.RecordCause.TheVariants.{Tag}
use Rattle.record.specs.declared.meter.Meter.{Meter}
use Rattle.record.specs.Calls.{fault}
use Rattle.record.specs.Draws.{draw_format}
use Rattle.record.specs.Meters.{meter_format}

pub record Figures : Type 0 where
  -- after 4,294,967,295 comes 256
  pub wraps : next_number 4294967295 ≡ 256
  -- the third and fourth words 0xFF00 and 0x0FF0 and provider 1 give the third identity number 0xF0F1
  pub identity : (p : Parameters) → p.base_id.w3 ≡ 0xFF00 → p.base_id.w4 ≡ 0x0FF0 → p.provider_id ≡ 1
      → identity_3 p ≡ 0xF0F1
  -- 70,000 pulses at -5 hundredths of a degree, valid
  pub meter : meter_format.octets (record { pulses = 70000; centidegrees = negsuc 4; valid = true })
      ≡ 0x70 ∷ 0x11 ∷ 0x01 ∷ 0x00 ∷ 0xFB ∷ 0xFF ∷ 0x01 ∷ []
  -- to run at 1.0
  pub run : draw_format.octets (Run (fin false 1 (pos 0)))
      ≡ 0x01 ∷ 0x00 ∷ 0x00 ∷ 0x00 ∷ 0x00 ∷ 0x00 ∷ 0x00 ∷ 0xF0 ∷ 0x3F ∷ []
  -- tag 3 fails at octet 0, whatever follows
  pub tag : (rest : List ℕ) → draw_format.parsed (3 ∷ rest) ≡ fault Tag 0
  -- a timeout of 100, and a request made at 1,000 in the cycle before: alive at 1,100, expired at 1,101
  pub alive : (p : Parameters) (c : State Meter) (q : TimedRequest) → p.timeout ≡ 100 → c.time ≡ Some 1000 → q.time ≡ 1000
      → has_expired p c 1100 q ≡ false
  pub expired : (p : Parameters) (c : State Meter) (q : TimedRequest) → p.timeout ≡ 100 → c.time ≡ Some 1000 → q.time ≡ 1000
      → has_expired p c 1101 q ≡ true
  -- an interval of 6 minutes, a fault at 10 and no hold: a fault at 360,010 starts one, a fault at 360,011 does not
  pub hold : (p : Parameters) (c : State Meter) (x : CycleFault) → p.error_interval ≡ 6 → c.fault_time ≡ Some 10
      → c.hold ≡ false → (after_turn meter_format p c 360010 false false (Fault x)).hold ≡ true
  pub no_hold : (p : Parameters) (c : State Meter) (x : CycleFault) → p.error_interval ≡ 6 → c.fault_time ≡ Some 10
      → c.hold ≡ false → (after_turn meter_format p c 360011 false false (Fault x)).hold ≡ false
