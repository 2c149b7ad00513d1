-- What fetch may do.
use Rattle.std.specs.Prelude.{◌≡◌, ℕ, ◌≤◌, true, false, cond, ◌⊎◌, List, [], ◌∷◌, ◌++◌, length, drop, Some, None, Ok, Err, Option, Result, nat_lt}
use mathlib.Core.List.{Memᴰ}
use Rattle.carrier.specs.declared.lane.FetchRefusal.{FetchRefusal}
use Rattle.carrier.specs.declared.lane.FetchRefusal.TheVariants.{ShortBuffer}
use Rattle.carrier.specs.declared.lane.Lane.{Lane}
use Rattle.carrier.specs.declared.lane.Lane.TheVariants.{Up, Down}
use Rattle.carrier.specs.Lanes.{Message, Lanes, lane_of, with_lane, NoGain, Fixed}
use Rattle.message.specs.Response.{longest}
use Rattle.message.specs.Sound.{sound}

abbrev pub Answer : Type 0
Answer = Result (Option ℕ) FetchRefusal

-- what a fetch brings: a message or none
abbrev pub Brought : Type 0
Brought = Option Message

-- it answers the length of the message
abbrev pub length_of : Brought → Option ℕ
length_of (Some m) = Some (length m)
length_of None = None

-- the message stands at the start of the buffer, and the rest is as it was
abbrev pub brought_in : Brought → List ℕ → List ℕ
brought_in (Some m) buffer = m ++ drop (length m) buffer
brought_in None buffer = buffer

-- a message that the lane did not hold comes in the down lane only, and is not sound
abbrev pub MadeUp : Lane → Message → Type 0
MadeUp Up m = ⊥
MadeUp Down m = sound m ≡ false

-- a message has from 1 to 1,525 octets, and was held in the lane or made up
abbrev pub Came : Lane → Lanes → Brought → Type 0
Came l a (Some m) = (1 ≤ length m) × (length m ≤ longest) × (Memᴰ m (lane_of l a) ⊎ MadeUp l m)
Came l a None = Unit

abbrev pub first_of : List Message → Brought
first_of [] = None
first_of (m ∷ ms) = Some m

abbrev pub rest_of : List Message → List Message
rest_of [] = []
rest_of (m ∷ ms) = ms

-- what a steady carrier holds after a fetch: the first message is removed unless it stands
abbrev pub steady_fetch : Lane → Lanes → Lanes
steady_fetch l a = cond a.standing a (with_lane l (rest_of (lane_of l a)) a)

pub record Got (l : Lane) (before after : Lanes) (brought : Brought) : Type 0 where
  -- which held message comes, and when none comes, is free
  pub came : Came l before brought
  -- no lane gains a message; what is lost is free
  pub up : NoGain before.up after.up
  pub down : NoGain before.down after.down
  pub fixed : Fixed before after
  -- a steady carrier brings the first message, or none exactly for an empty lane
  pub when_steady : before.steady ≡ true → (brought ≡ first_of (lane_of l before)) × (after ≡ steady_fetch l before)

-- a fetch that brought this
pub record FetchedSo (l : Lane) (before after : Lanes) (buffer buffer' : List ℕ) (answer : Answer) (brought : Brought) : Type 0 where
  pub got : Got l before after brought
  pub answers : answer ≡ Ok (length_of brought)
  pub leaves : buffer' ≡ brought_in brought buffer

-- a buffer under 1,525 octets is refused, and nothing changes
pub record Fetched (l : Lane) (before after : Lanes) (buffer buffer' : List ℕ) (answer : Answer) : Type 0 where
  pub refused : nat_lt (length buffer) longest ≡ true → (answer ≡ Err ShortBuffer) × (after ≡ before) × (buffer' ≡ buffer)
  pub fetched : nat_lt (length buffer) longest ≡ false → (brought : Brought) × FetchedSo l before after buffer buffer' answer brought
