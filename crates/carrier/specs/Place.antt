-- What place may do.
use Rattle.std.specs.Prelude.{◌≡◌, Bool, true, false, cond, ◌&&◌, ◌⊎◌, [], ◌∷◌, ◌++◌, length, Ok, Err, Result, ◌==◌, nat_le}
use mathlib.Core.List.{Memᴰ}
use Rattle.carrier.specs.declared.lane.Lane.{Lane}
use Rattle.carrier.specs.declared.lane.PlaceRefusal.{PlaceRefusal}
use Rattle.carrier.specs.declared.lane.PlaceRefusal.TheVariants.{Length, Full}
use Rattle.carrier.specs.Lanes.{Message, Lanes, lane_of, slots_of, other, with_lane, NoGain, Fixed}
use Rattle.message.specs.Response.{longest}

abbrev pub Answer : Type 0
Answer = Result Unit PlaceRefusal

-- the answer to a message of lawful length: taken, or full
abbrev pub place_answer : Bool → Answer
place_answer true = Ok tt
place_answer false = Err Full

-- a message has from 1 to 1,525 octets
abbrev pub sendable : Message → Bool
sendable m = nat_le 1 (length m) && nat_le (length m) longest

-- a steady carrier is full where a lane that does not stand holds as many messages as it has slots
abbrev pub full : Lane → Lanes → Bool
full l a = cond a.standing false (length (lane_of l a) == slots_of l a)

-- what a steady carrier holds after a place: standing, the message alone; else the message behind the others, unless full
abbrev pub steady_place : Lane → Message → Lanes → Lanes
steady_place l m a =
    cond a.standing (with_lane l (m ∷ []) a) (cond (full l a) a (with_lane l (lane_of l a ++ m ∷ []) a))

abbrev pub steady_answer : Lane → Lanes → Answer
steady_answer l a = cond (full l a) (Err Full) (Ok tt)

-- a message of lawful length on a lane
pub record Put (l : Lane) (m : Message) (before after : Lanes) (answer : Answer) : Type 0 where
  -- it is taken, or the lane is full; when a lane is full is free
  pub answers : (answer ≡ Ok tt) ⊎ (answer ≡ Err Full)
  -- the lane holds only what it held and, if taken, the message; what is lost is free
  pub this_lane : (x : Message) → Memᴰ x (lane_of l after) → Memᴰ x (lane_of l before) ⊎ ((answer ≡ Ok tt) × (x ≡ m))
  -- the other lane gains nothing
  pub other_lane : NoGain (lane_of (other l) before) (lane_of (other l) after)
  pub fixed : Fixed before after
  -- a steady carrier does exactly this
  pub when_steady : before.steady ≡ true → (after ≡ steady_place l m before) × (answer ≡ steady_answer l before)

-- a message of no octets, or over 1,525, is refused and nothing changes
pub record Placed (l : Lane) (m : Message) (before after : Lanes) (answer : Answer) : Type 0 where
  pub refused : sendable m ≡ false → (answer ≡ Err Length) × (after ≡ before)
  pub put : sendable m ≡ true → Put l m before after answer
