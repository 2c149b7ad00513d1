-- What the calling carrier means.
use Rattle.std.specs.Prelude.{◌≡◌, ℕ, ◌/◌, max, Bool, true, false, cond, ◌&&◌, List, [], length, None, Ok, Err, nat_lt}
use Rattle.calling.specs.declared.Calling.{Calling}
use Rattle.calling.specs.Chains.{Stored, held}
use Rattle.calling.specs.Memory.{whole_slots}
use Rattle.calling.specs.Slots.{slot_octets}
use Rattle.carrier.specs.declared.lane.FetchRefusal.TheVariants.{ShortBuffer}
use Rattle.carrier.specs.declared.lane.PlaceRefusal.TheVariants.{Length, Full}
use Rattle.carrier.specs.Fetch as fetch
use Rattle.carrier.specs.Lanes.{Lanes, Message}
use Rattle.carrier.specs.Place as place
use Rattle.message.specs.Response.{longest}

-- steady where both lanes have slots; a lane without slots counts as one slot that takes nothing
abbrev pub lanes_of : List Message → ℕ → List Message → ℕ → Lanes
lanes_of up n down k =
    record { up = up; down = down; steady = nat_lt 0 n && nat_lt 0 k; standing = false; up_slots = max 1 n; down_slots = max 1 k }

-- what two lane memories mean
abbrev pub means : Stored → Stored → Lanes
means up down = lanes_of (held up) up.heads.slots (held down) down.heads.slots

abbrev pub meaning : Calling → Lanes
meaning c = means c.up c.down

-- are both memories 1 to 16 whole slots?
abbrev pub both_whole : List ℕ → List ℕ → Bool
both_whole up down = whole_slots (length up) && whole_slots (length down)

-- made over two memories: empty, and steady where both are whole slots
abbrev pub made_over : List ℕ → List ℕ → Lanes
made_over up down =
    cond (both_whole up down)
    (record {
      up = [];
      down = [];
      steady = true;
      standing = false;
      up_slots = length up / slot_octets;
      down_slots = length down / slot_octets;
    })
    (record { up = []; down = []; steady = false; standing = false; up_slots = 1; down_slots = 1 })

-- the lanes hold what they held, and not an octet of the two memories changes
pub record Stands (before after : Calling) : Type 0 where
  pub lanes : meaning after ≡ meaning before
  pub up : after.up.octets ≡ before.up.octets
  pub down : after.down.octets ≡ before.down.octets

-- a carrier that is not steady takes nothing
pub record TakesNothing (m : Message) (before after : Calling) (answer : place.Answer) : Type 0 where
  pub answers : answer ≡ cond (place.sendable m) (Err Full) (Err Length)
  pub stands : Stands before after

-- and brings nothing
pub record BringsNothing (buffer buffer' : List ℕ) (before after : Calling) (answer : fetch.Answer) : Type 0 where
  pub answers : answer ≡ cond (nat_lt (length buffer) longest) (Err ShortBuffer) (Ok None)
  pub leaves : buffer' ≡ buffer
  pub stands : Stands before after
