-- The numbers of refusals.
use Rattle.std.specs.Prelude.{ℕ, Some, None, Option}
use Rattle.record.specs.declared.fault.EncodeRefusal.{EncodeRefusal}
use Rattle.record.specs.declared.fault.EncodeRefusal.TheVariants.{Short, Unsound}
use Rattle.record.specs.declared.round_trip.TripFault.{TripFault}
use Rattle.record.specs.declared.round_trip.TripFault.TheVariants.{Encode, Decode}

-- an unsound record is refused by 8; a slice without room has no number, since no call of a link is given one
abbrev pub encode_number : EncodeRefusal → Option ℕ
encode_number Short = None
encode_number Unsound = Some 8

-- a round trip has the number of what stopped it
abbrev pub trip_number : TripFault → Option ℕ
trip_number (Encode e) = encode_number e
trip_number (Decode _) = Some 25
