-- A response that is built and judged at once.
use Rattle.std.specs.Prelude.{ℕ, ◌+◌, cond, List, length, Ok, Err, Result, ◌==◌, nat_lt}
use Rattle.message.specs.declared.fault.MessageFault.TheVariants.{Consumer}
use Rattle.message.specs.declared.loopback.LoopbackFault.{LoopbackFault}
use Rattle.message.specs.declared.loopback.LoopbackFault.TheVariants.{Build, Judge}
use Rattle.message.specs.declared.loopback.Returned.{Returned}
use Rattle.message.specs.declared.parameters.Parameters.{Parameters}
use Rattle.message.specs.declared.response.BuildRefusal.TheVariants.{ShortBuffer, UnsoundRecord}
use Rattle.message.specs.declared.response.Response.{Response}
use Rattle.message.specs.Faults.{message_number}
use Rattle.message.specs.Response.{build_number, longest}
use Rattle.record.specs.Kind.{Format}

abbrev pub loopback_number : LoopbackFault → ℕ
loopback_number (Build refusal) = build_number refusal
loopback_number (Judge fault) = message_number fault

-- the record, the number and the flags that went in
abbrev pub returned : {R : Type 0} → Response R → Returned R
returned r = record {
  safety_data = r.safety_data;
  checked = record { monitoring_number = r.monitoring_number; flags = r.flags };
}

-- all comes back of a sound record in a large enough buffer, unless the response is for another consumer
abbrev pub loopback_answer : {R : Type 0} → Format R → Parameters → Response R → List ℕ → Result (Returned R) LoopbackFault
loopback_answer f p r buffer =
    cond (nat_lt (length buffer) longest) (Err (Build ShortBuffer))
    (cond (f.sound r.safety_data)
    (cond (r.consumer_id == p.consumer_id) (Ok (returned r)) (Err (Judge (Consumer (f.len + 13)))))
    (Err (Build UnsoundRecord)))
