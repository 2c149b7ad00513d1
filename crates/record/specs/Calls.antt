-- What the calls of a record kind answer, and what they leave in a slice.
use Rattle.std.specs.Prelude.{ℕ, cond, List, ◌++◌, length, drop, Ok, Err, Result, ◌==◌, nat_lt}
use Rattle.record.specs.declared.fault.EncodeRefusal.{EncodeRefusal}
use Rattle.record.specs.declared.fault.EncodeRefusal.TheVariants.{Short, Unsound}
use Rattle.record.specs.declared.fault.RecordFault.{RecordFault}
use Rattle.record.specs.declared.fault.RecordCause.{RecordCause}
use Rattle.record.specs.declared.fault.RecordCause.TheVariants.{Length}
use Rattle.record.specs.declared.round_trip.TripFault.{TripFault}
use Rattle.record.specs.declared.round_trip.TripFault.TheVariants.{Encode, Decode}
use Rattle.record.specs.Kind.{Format}

-- a fault of this cause at this octet
abbrev pub fault : {R : Type 0} → RecordCause → ℕ → Result R RecordFault
fault cause place = Err (record { cause = cause; place = place })

-- to encode refuses a slice without room, then an unsound record
abbrev pub encode_answer : {R : Type 0} → Format R → R → List ℕ → Result Unit EncodeRefusal
encode_answer f r out = cond (nat_lt (length out) f.len) (Err Short) (cond (f.sound r) (Ok tt) (Err Unsound))

-- a slice after encoding: the record's octets and then the rest, or all as it was where encoding refused
abbrev pub encoded : {R : Type 0} → Format R → R → List ℕ → List ℕ
encoded f r out = cond (nat_lt (length out) f.len) out (cond (f.sound r) (f.octets r ++ drop f.len out) out)

-- octets of another number than the kind has do not decode; the others decode as the kind says
abbrev pub decoded : {R : Type 0} → Format R → List ℕ → Result R RecordFault
decoded f s = cond (length s == f.len) (f.parsed s) (fault Length 0)

-- a record encoded and its octets decoded: the record itself, unless encoding refused
abbrev pub reread_answer : {R : Type 0} → Format R → R → List ℕ → Result R TripFault
reread_answer f r out =
    cond (nat_lt (length out) f.len) (Err (Encode Short)) (cond (f.sound r) (Ok r) (Err (Encode Unsound)))

-- octets decoded and the record encoded: it never fails for an unsound record
abbrev pub recoding : {R : Type 0} → Format R → List ℕ → Result R RecordFault → Result R TripFault
recoding f out (Ok r) = cond (nat_lt (length out) f.len) (Err (Encode Short)) (Ok r)
recoding f out (Err e) = Err (Decode e)

abbrev pub recoded : {R : Type 0} → Format R → List ℕ → List ℕ → Result R TripFault
recoded f s out = recoding f out (decoded f s)

-- what that leaves: the same octets and then the rest, or all as it was
abbrev pub rewriting : {R : Type 0} → Format R → List ℕ → List ℕ → Result R RecordFault → List ℕ
rewriting f s out (Ok _) = cond (nat_lt (length out) f.len) out (s ++ drop f.len out)
rewriting f s out (Err _) = out

abbrev pub rewritten : {R : Type 0} → Format R → List ℕ → List ℕ → List ℕ
rewritten f s out = rewriting f s out (decoded f s)
