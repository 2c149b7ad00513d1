-- How the bay judges a response to its request.
use Rattle.std.specs.Prelude.{ℕ, cond, Ok, Err, Result, ◌==◌}
use Rattle.message.specs.declared.check.Checked.{Checked}
use Rattle.message.specs.declared.fault.MessageFault.{MessageFault}
use Rattle.record.specs.declared.meter.Meter.{Meter}
use Rattle.readout.specs.declared.bay.Refusal.{Refusal}
use Rattle.readout.specs.declared.bay.Refusal.TheVariants.{Message, Number}
use Rattle.readout.specs.declared.bay.Shown.{Shown}

-- a record that was read is shown
abbrev pub shown : Checked → Result Meter MessageFault → Result Shown Refusal
shown k (Ok m) = Ok (record { reading = m; flags = k.flags })
shown k (Err fault) = Err (Message fault)

-- of the number that was asked for, what the message's checks say and what is read of the record: first the checks,
-- then the number, then the record
abbrev pub judgment : ℕ → Result Checked MessageFault → Result Meter MessageFault → Result Shown Refusal
judgment asked (Ok k) read = cond (k.monitoring_number == asked) (shown k read) (Err (Number k.monitoring_number))
judgment asked (Err fault) read = Err (Message fault)
