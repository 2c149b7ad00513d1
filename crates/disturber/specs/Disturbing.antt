-- What a disturber means as a carrier, and what each disturbance makes of a down fetch.
use Rattle.std.specs.Prelude.{◌≡◌, ℕ, ◌-◌, true, false, cond, List, ◌++◌, length, drop, Some, None, Ok, Err, Option, bit_xor, nat_lt, slice_index, slice_set}
use Rattle.carrier.specs.declared.lane.FetchRefusal.TheVariants.{ShortBuffer}
use Rattle.carrier.specs.declared.lane.Lane.{Lane}
use Rattle.carrier.specs.declared.lane.Lane.TheVariants.{Up, Down}
use Rattle.carrier.specs.Cells.{held, listed}
use Rattle.carrier.specs.Fetch.{Answer, Brought, Fetched, Got, length_of, brought_in}
use Rattle.carrier.specs.Lanes.{Message, Lanes}
use Rattle.message.specs.Response.{longest}
use Rattle.message.specs.Sound.{sound}
use Rattle.disturber.specs.declared.Disturber.{Disturber}
use Rattle.disturber.specs.declared.disturbance.Disturbance.{Disturbance}
use Rattle.disturber.specs.declared.disturbance.Disturbance.TheVariants.{Pass, Lose, Repeat, Flip}
use Rattle.disturber.specs.Scripts.{to_come, next_of}

-- the lanes of the carrier below with the kept message in front of the down lane; never steady, never standing
abbrev pub disturbed : Brought → Lanes → Lanes
disturbed kept below = record {
  up = below.up;
  down = listed kept ++ below.down;
  steady = false;
  standing = false;
  up_slots = below.up_slots;
  down_slots = below.down_slots;
}

-- the kept message
abbrev pub kept_of : {C : Type 0} → Disturber C → Brought
kept_of d = held d.script.kept

-- what a disturber means, from what the carrier below means
abbrev pub lanes_over : {C : Type 0} → (C → Lanes) → Disturber C → Lanes
lanes_over lanes d = disturbed (kept_of d) (lanes d.below)

-- the lowest bit of the last octet flipped
abbrev pub flipped : Message → Message
flipped m = slice_set m (length m - 1) (bit_xor (slice_index m (length m - 1)) 1)

-- a message that is not sound, or none
abbrev pub unless_sound : Message → Brought
unless_sound m = cond (sound m) None (Some m)

-- a flipped message is handed out only where it is not sound
abbrev pub damaged : Brought → Brought
damaged (Some m) = unless_sound (flipped m)
damaged None = None

-- a sound message takes the place of the kept one
abbrev pub kept_sound : Brought → Brought → Brought
kept_sound kept (Some m) = cond (sound m) (Some m) kept
kept_sound kept None = kept

-- what is handed out, from the kept message and what the carrier below brought
abbrev pub handed : Disturbance → Brought → Brought → Brought
handed Pass kept brought = brought
handed Lose kept brought = None
handed Repeat kept brought = kept
handed Flip kept brought = damaged brought

-- what is kept then: only a pass keeps anything new
abbrev pub kept_after : Disturbance → Brought → Brought → Brought
kept_after Pass kept brought = kept_sound kept brought
kept_after Lose kept brought = kept
kept_after Repeat kept brought = kept
kept_after Flip kept brought = kept

-- what is asked of the carrier below: a down fetch, but nothing for a repeat
abbrev pub Asked : {C : Type 0} → (C → Lanes) → Disturbance → C → C → Brought → Type 0
Asked lanes Pass below below' brought = Got Down (lanes below) (lanes below') brought
Asked lanes Lose below below' brought = Got Down (lanes below) (lanes below') brought
Asked lanes Repeat below below' brought = (below' ≡ below) × (brought ≡ None)
Asked lanes Flip below below' brought = Got Down (lanes below) (lanes below') brought

-- a down fetch that meets this disturbance and leaves these to come
pub record Disturbed {C : Type 0} (lanes : C → Lanes) (d : Disturbance) (left : List Disturbance) (before after : Disturber C)
    (buffer buffer' : List ℕ) (answer : Answer) : Type 0 where
  -- what the carrier below brought; none where it was not asked
  pub brought : Brought
  pub asked : Asked lanes d before.below after.below brought
  -- the caller gets what is handed out: its length, and its octets at the start of the buffer
  pub answers : answer ≡ Ok (length_of (handed d (kept_of before) brought))
  pub leaves : buffer' ≡ brought_in (handed d (kept_of before) brought) buffer
  pub keeps : kept_of after ≡ kept_after d (kept_of before) brought
  pub moves : to_come after.script ≡ left

-- what a disturbance does by itself: the script does not move
abbrev pub Acted : {C : Type 0} → (C → Lanes) → Disturbance → Disturber C → Disturber C → List ℕ → List ℕ → Option ℕ → Type 0
Acted lanes d before after buffer buffer' r = Disturbed lanes d (to_come before.script) before after buffer buffer' (Ok r)

-- an up fetch is an up fetch of the carrier below; the script does not move, and the kept message stays
pub record UpFetched {C : Type 0} (lanes : C → Lanes) (before after : Disturber C) (buffer buffer' : List ℕ) (answer : Answer)
    : Type 0 where
  pub below : Fetched Up (lanes before.below) (lanes after.below) buffer buffer' answer
  pub script : after.script ≡ before.script

-- a down fetch meets the next disturbance, and the script moves on by one code;
-- only a buffer under 1,525 octets is refused before that, and nothing changes
pub record DownFetched {C : Type 0} (lanes : C → Lanes) (before after : Disturber C) (buffer buffer' : List ℕ) (answer : Answer)
    : Type 0 where
  pub refused : nat_lt (length buffer) longest ≡ true → (answer ≡ Err ShortBuffer) × (after ≡ before) × (buffer' ≡ buffer)
  pub fetched : nat_lt (length buffer) longest ≡ false
      → Disturbed lanes (next_of (to_come before.script)) (drop 1 (to_come before.script)) before after buffer buffer' answer

-- a fetch of either lane
abbrev pub FetchedThrough : {C : Type 0} → (C → Lanes) → Lane → Disturber C → Disturber C → List ℕ → List ℕ → Answer → Type 0
FetchedThrough lanes Up = UpFetched lanes
FetchedThrough lanes Down = DownFetched lanes
