-- What the calls of a lane do to its memory.
use Rattle.std.specs.Prelude.{◌≡◌, ℕ, ◌/◌, Bool, cond, List, [], ◌∷◌, ◌++◌, length, Ok, Err, Option, ◌==◌}
use Rattle.std.specs.List.{AllByRecursion}
use Rattle.calling.specs.Chains.{Stored, Lawful, Sized, held}
use Rattle.calling.specs.Slots.{slot_octets}
use Rattle.carrier.specs.declared.lane.PlaceRefusal.TheVariants.{Full}
use Rattle.carrier.specs.Fetch.{length_of, brought_in, first_of, rest_of}
use Rattle.carrier.specs.Lanes.{Message}
use Rattle.carrier.specs.Place.{Answer}

-- as many messages wait as there are slots
abbrev pub crowded : Stored → Bool
crowded s = length (held s) == s.heads.slots

-- a message goes behind the others, unless no slot is free
pub record Appends (before after : Stored) (m : Message) (answer : Answer) : Type 0 where
  pub lawful : Lawful after
  pub slots : after.heads.slots ≡ before.heads.slots
  pub holds : held after ≡ cond (crowded before) (held before) (held before ++ m ∷ [])
  pub answers : answer ≡ cond (crowded before) (Err Full) (Ok tt)

-- the oldest message goes to the start of the buffer, if one waits
pub record Takes (before after : Stored) (buffer buffer' : List ℕ) (answer : Option ℕ) : Type 0 where
  pub lawful : Lawful after
  pub slots : after.heads.slots ≡ before.heads.slots
  pub holds : held after ≡ rest_of (held before)
  pub answers : answer ≡ length_of (first_of (held before))
  pub leaves : buffer' ≡ brought_in (first_of (held before)) buffer
  -- each message that waited has from 1 to 1,525 octets
  pub sized : AllByRecursion Sized (held before)

-- every slot of the memory is free
pub record Formatted (octets : List ℕ) (after : Stored) : Type 0 where
  pub lawful : Lawful after
  pub slots : after.heads.slots ≡ length octets / slot_octets
  pub holds : held after ≡ []
