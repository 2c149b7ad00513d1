-- What a carrier means: two lanes of messages, and what never changes about it.
use Rattle.std.specs.Prelude.{◌≡◌, ℕ, ◌≤◌, Bool, List}
use mathlib.Core.List.{Memᴰ}
use Rattle.carrier.specs.declared.lane.Lane.{Lane}
use Rattle.carrier.specs.declared.lane.Lane.TheVariants.{Up, Down}

-- a message is its octets
abbrev pub Message : Type 0
Message = List ℕ

pub record Lanes : Type 0 where
  -- the messages held on the way up, from consumer to provider, the oldest first
  pub up : List Message
  -- the messages held on the way down, from provider to consumer, the oldest first
  pub down : List Message
  -- does it keep the equations of a steady carrier?
  pub steady : Bool
  -- does a message stand until the next takes its place?
  pub standing : Bool
  -- how many messages each lane has room for
  pub up_slots : ℕ
  pub down_slots : ℕ

abbrev pub lane_of : Lane → Lanes → List Message
lane_of Up l = l.up
lane_of Down l = l.down

abbrev pub slots_of : Lane → Lanes → ℕ
slots_of Up l = l.up_slots
slots_of Down l = l.down_slots

abbrev pub other : Lane → Lane
other Up = Down
other Down = Up

-- the lanes with another list in one of the two
abbrev pub with_lane : Lane → List Message → Lanes → Lanes
with_lane Up ms l =
    record { up = ms; down = l.down; steady = l.steady; standing = l.standing; up_slots = l.up_slots; down_slots = l.down_slots }
with_lane Down ms l =
    record { up = l.up; down = ms; steady = l.steady; standing = l.standing; up_slots = l.up_slots; down_slots = l.down_slots }

-- a lane gains nothing: what it holds after, it held before
abbrev pub NoGain : List Message → List Message → Type 0
NoGain before after = (m : Message) → Memᴰ m after → Memᴰ m before

-- what a carrier's meaning fixes for good
pub record Fixed (before after : Lanes) : Type 0 where
  pub steady : after.steady ≡ before.steady
  pub standing : after.standing ≡ before.standing
  pub up_slots : after.up_slots ≡ before.up_slots
  pub down_slots : after.down_slots ≡ before.down_slots

-- every carrier has a slot in each lane
pub record HasSlots (l : Lanes) : Type 0 where
  pub up : 1 ≤ l.up_slots
  pub down : 1 ≤ l.down_slots
