-- The octets of a response, and how it is built in a buffer.
use Rattle.std.specs.Prelude.{ℕ, ◌+◌, cond, List, ◌∷◌, ◌++◌, length, drop, Ok, Err, Result, nat_lt}
use Rattle.message.specs.declared.flags.ResponseFlags.{ResponseFlags}
use Rattle.message.specs.declared.identity.Identities.{Identities}
use Rattle.message.specs.declared.parameters.Parameters.{Parameters}
use Rattle.message.specs.declared.response.BuildRefusal.{BuildRefusal}
use Rattle.message.specs.declared.response.BuildRefusal.TheVariants.{ShortBuffer, UnsoundRecord}
use Rattle.message.specs.declared.response.Response.{Response}
use Rattle.message.specs.Flags.{response_octet}
use Rattle.message.specs.Identity.{identities_of}
use Rattle.record.specs.declared.fault.EncodeRefusal.{EncodeRefusal}
use Rattle.record.specs.declared.fault.EncodeRefusal.TheVariants.{Short, Unsound}
use Rattle.record.specs.Kind.{Format}
use Rattle.record.specs.Octets.{le}
use Rattle.signature.specs.Signature.{signature}

-- no message is longer
abbrev pub longest : ℕ
longest = 1525

-- what follows the record: flags, the three identity numbers, consumer number, monitoring number
abbrev pub trailer : ℕ → Identities → ℕ → ℕ → List ℕ
trailer flags ids consumer number =
    flags ∷ le 4 ids.first ++ le 4 ids.second ++ le 4 ids.third ++ le 4 consumer ++ le 4 number

-- octets, and then their signature
unfoldable pub with_signature : List ℕ → List ℕ
with_signature s = s ++ le 4 (signature s)

-- the response with these fields
abbrev pub response_of : {R : Type 0} → R → ResponseFlags → ℕ → ℕ → Response R
response_of r flags consumer number =
    record { safety_data = r; flags = flags; consumer_id = consumer; monitoring_number = number }

-- a response, whole
abbrev pub response_octets : {R : Type 0} → Format R → Parameters → Response R → List ℕ
response_octets f p r =
    with_signature (f.octets r.safety_data
    ++ trailer (response_octet r.flags) (identities_of f p) r.consumer_id r.monitoring_number)

abbrev pub build_number : BuildRefusal → ℕ
build_number ShortBuffer = 7
build_number UnsoundRecord = 8

-- a refusal to encode, as one to build
abbrev pub refused_encoding : EncodeRefusal → BuildRefusal
refused_encoding Short = ShortBuffer
refused_encoding Unsound = UnsoundRecord

-- a short buffer is refused first, then an unsound record
abbrev pub build_answer : {R : Type 0} → Format R → Response R → List ℕ → Result ℕ BuildRefusal
build_answer f r buffer =
    cond (nat_lt (length buffer) longest) (Err ShortBuffer)
    (cond (f.sound r.safety_data) (Ok (f.len + 25)) (Err UnsoundRecord))

-- the buffer then: the response and then the rest, or all as it was
abbrev pub built : {R : Type 0} → Format R → Parameters → Response R → List ℕ → List ℕ
built f p r buffer =
    cond (nat_lt (length buffer) longest) buffer
    (cond (f.sound r.safety_data) (response_octets f p r ++ drop (f.len + 25) buffer) buffer)
