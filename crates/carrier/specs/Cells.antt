-- What a cell holds, and what the publishing carrier means.
use Rattle.std.specs.Prelude.{ℕ, true, cond, List, [], ◌∷◌, length, take, Some, None, ◌==◌, nat_lt}
use Rattle.carrier.specs.declared.cell.Cell.{Cell}
use Rattle.carrier.specs.Fetch.{Brought, brought_in}
use Rattle.carrier.specs.Lanes.{Message, Lanes}
use Rattle.carrier.specs.Place.{sendable}
use Rattle.message.specs.Response.{longest}

-- the message in a cell
abbrev pub held : Cell → Brought
held c = cond (c.size == 0) None (Some (take c.size c.octets))

-- a cell keeps a message of lawful length, in the place of the one before
abbrev pub kept_after : Brought → Message → Brought
kept_after before m = cond (sendable m) (Some m) before

-- it is shown where the buffer has room for any message
abbrev pub shown : Brought → List ℕ → Brought
shown kept buffer = cond (nat_lt (length buffer) longest) None kept

abbrev pub shown_in : Brought → List ℕ → List ℕ
shown_in kept buffer = brought_in (shown kept buffer) buffer

-- one message or none, as a lane
abbrev pub listed : Brought → List Message
listed (Some m) = m ∷ []
listed None = []

-- the publishing carrier is steady and standing, with one slot a lane
abbrev pub published : Cell → Cell → Lanes
published up down =
    record { up = listed (held up); down = listed (held down); steady = true; standing = true; up_slots = 1; down_slots = 1 }

abbrev pub nothing_published : Lanes
nothing_published = record { up = []; down = []; steady = true; standing = true; up_slots = 1; down_slots = 1 }
