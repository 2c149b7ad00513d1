-- How a response is judged.
use Rattle.std.specs.Prelude.{ℕ, ◌+◌, Bool, cond, List, length, take, Ok, Err, Result, ◌==◌, slice_index}
use Rattle.message.specs.declared.check.Checked.{Checked}
use Rattle.message.specs.declared.fault.MessageFault.{MessageFault}
use Rattle.message.specs.declared.fault.MessageFault.TheVariants.{Length, Signature, Identity, Consumer, Record}
use Rattle.message.specs.declared.identity.Identities.{Identities}
use Rattle.message.specs.declared.parameters.Parameters.{Parameters}
use Rattle.message.specs.Flags.{response_flags}
use Rattle.message.specs.Identity.{identities_of}
use Rattle.message.specs.Layout.{u32_at}
use Rattle.record.specs.declared.fault.RecordFault.{RecordFault}
use Rattle.record.specs.Kind.{Format}
use Rattle.signature.specs.Signature.{signature}

-- go on where a check passes, else tell its fault
abbrev pub unless : {A : Type 0} → Bool → MessageFault → Result A MessageFault → Result A MessageFault
unless passes fault rest = cond passes rest (Err fault)

-- the checks of a message, in their order, where a record has n octets
abbrev pub judged : List ℕ → ℕ → Identities → ℕ → Result Checked MessageFault
judged m n ids consumer =
    unless (length m == n + 25) Length
    (unless (u32_at m (n + 21) == signature (take (n + 21) m)) (Signature (n + 21))
    (unless (u32_at m (n + 1) == ids.first) (Identity (n + 1))
    (unless (u32_at m (n + 5) == ids.second) (Identity (n + 5))
    (unless (u32_at m (n + 9) == ids.third) (Identity (n + 9))
    (unless (u32_at m (n + 13) == consumer) (Consumer (n + 13))
    (Ok (record { monitoring_number = u32_at m (n + 17); flags = response_flags (slice_index m n) })))))))

-- a consumer holds a message to the identity numbers of its provider and to its own number
abbrev pub checked : {R : Type 0} → Format R → Parameters → List ℕ → Result Checked MessageFault
checked f p m = judged m f.len (identities_of f p) p.consumer_id

-- the record's fault, whole, inside the message's
abbrev pub carried : {R : Type 0} → Result R RecordFault → Result R MessageFault
carried (Ok r) = Ok r
carried (Err fault) = Err (Record fault)

-- the record stands first
abbrev pub record_read : {R : Type 0} → Format R → List ℕ → Result R MessageFault
record_read f m = unless (length m == f.len + 25) Length (carried (f.parsed (take f.len m)))
