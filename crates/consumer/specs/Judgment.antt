-- How a consumer judges a message while a request stands.
use Rattle.std.specs.Prelude.{ℕ, ◌+◌, Bool, false, cond, List, Some, None, Ok, Err, Option, Result, ◌==◌}
use Rattle.consumer.specs.declared.event.Turn.{Turn}
use Rattle.consumer.specs.declared.event.Turn.TheVariants.{Ignored, Accepted}
use Rattle.consumer.specs.declared.fault.CycleFault.{CycleFault}
use Rattle.consumer.specs.declared.fault.CycleFault.TheVariants.{Message, Number}
use Rattle.consumer.specs.declared.state.TimedRequest.{TimedRequest}
use Rattle.message.specs.declared.check.Checked.{Checked}
use Rattle.message.specs.declared.fault.MessageFault.{MessageFault}
use Rattle.message.specs.declared.flags.ResponseFlags.{ResponseFlags}
use Rattle.message.specs.declared.parameters.Parameters.{Parameters}
use Rattle.message.specs.Check.{checked, record_read}
use Rattle.message.specs.Faults.{message_number, message_layer, message_place}
use Rattle.message.specs.Sound.{all_zero}
use Rattle.record.specs.declared.fault.Layer.{Layer}
use Rattle.record.specs.Kind.{Format}

abbrev pub cycle_number : CycleFault → ℕ
cycle_number (Message fault) = message_number fault
cycle_number (Number place) = 24

abbrev pub cycle_layer : CycleFault → Layer
cycle_layer (Message fault) = message_layer fault
cycle_layer (Number place) = Layer.Cycle

abbrev pub cycle_place : CycleFault → ℕ
cycle_place (Message fault) = message_place fault
cycle_place (Number place) = place

-- the monitoring number of a request
abbrev pub number_of : TimedRequest → ℕ
number_of q = q.request.monitoring_number

-- is this the number of the last accepted request, if any?
abbrev pub accepted_before : Option TimedRequest → ℕ → Bool
accepted_before None number = false
accepted_before (Some last) number = number == number_of last

-- the record is read last: an accepted response, or the record's fault
abbrev pub with_record : {R : Type 0} → ResponseFlags → Result R MessageFault → Result (Turn R) CycleFault
with_record flags (Ok r) = Ok (Accepted r flags)
with_record flags (Err fault) = Err (Message fault)

-- after the checks the number is judged: the last accepted one is ignored, any other but the standing one is a fault
abbrev pub with_number : {R : Type 0} → Format R → Option TimedRequest → TimedRequest → List ℕ → Result Checked MessageFault
    → Result (Turn R) CycleFault
with_number f last standing m (Err fault) = Err (Message fault)
with_number f last standing m (Ok k) =
    cond (accepted_before last k.monitoring_number) (Ok Ignored)
    (cond (k.monitoring_number == number_of standing) (with_record k.flags (record_read f m)) (Err (Number (f.len + 17))))

-- a message that is all zero is ignored
unfoldable pub judged : {R : Type 0} → Format R → Parameters → Option TimedRequest → TimedRequest → List ℕ → Result (Turn R) CycleFault
judged f p last standing m = cond (all_zero m) (Ok Ignored) (with_number f last standing m (checked f p m))
