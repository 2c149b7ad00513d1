-- The two chains of a lane memory: the slots whose messages wait, and the free ones.
use Rattle.std.specs.Prelude.{◌≡◌, ℕ, zero, suc, ◌*◌, ◌≤◌, cond, ◌≢◌, List, [], ◌∷◌, ◌++◌, map, length, ◌==◌}
use Rattle.std.specs.List.{AllByRecursion}
use Rattle.calling.specs.declared.chains.Heads.{Heads}
use Rattle.calling.specs.Slots.{Slot, slot_octets, slot_of}
use Rattle.carrier.specs.Lanes.{Message}
use Rattle.message.specs.Response.{longest}

-- a lane memory as it stands
pub record Stored : Type 0 where
  pub octets : List ℕ
  pub heads : Heads

-- no slot is in use
abbrev pub no_slots : Heads
no_slots = record { slots = 0; first = 0; last = 0; free = 0 }

-- the slots of a chain from its head on, n at most
unfoldable pub met : ℕ → (ℕ → Slot) → ℕ → List ℕ
met zero at head = []
met (suc n) at head = cond (head == 0) [] (head ∷ met n at (at head).next)

abbrev pub waiting_slots : Stored → List ℕ
waiting_slots s = met s.heads.slots (slot_of s.octets) s.heads.first

abbrev pub free_slots : Stored → List ℕ
free_slots s = met s.heads.slots (slot_of s.octets) s.heads.free

abbrev pub messages : (ℕ → Slot) → List ℕ → List Message
messages at ks = map (λ k. (at k).message) ks

-- the messages that wait, the oldest first
unfoldable pub held : Stored → List Message
held s = messages (slot_of s.octets) (waiting_slots s)

-- from a head on the chain has these slots, and ends
abbrev pub Chain : (ℕ → Slot) → ℕ → List ℕ → Type 0
Chain at head [] = head ≡ 0
Chain at head (k ∷ ks) = (head ≡ k) × Chain at (at k).next ks

-- no number stands twice
abbrev pub Distinct : List ℕ → Type 0
Distinct [] = Unit
Distinct (k ∷ ks) = AllByRecursion (λ j. j ≢ k) ks × Distinct ks

-- one of the numbers 1 to n
abbrev pub SlotNumber : ℕ → ℕ → Type 0
SlotNumber n k = (1 ≤ k) × (k ≤ n)

-- each of the slots 1 to n stands here once
pub record Once (n : ℕ) (ks : List ℕ) : Type 0 where
  pub range : AllByRecursion (SlotNumber n) ks
  pub apart : Distinct ks
  pub count : length ks ≡ n

-- the last number, or else d
abbrev pub last_or : ℕ → List ℕ → ℕ
last_or d [] = d
last_or d (k ∷ ks) = last_or k ks

-- a message has from 1 to 1,525 octets
abbrev pub Sized : Message → Type 0
Sized m = (1 ≤ length m) × (length m ≤ longest)

-- the slots ws wait, the slots fs are free, and there is no other
pub record Linked (at : ℕ → Slot) (h : Heads) (ws fs : List ℕ) : Type 0 where
  pub waits : Chain at h.first ws
  pub frees : Chain at h.free fs
  pub slots : Once h.slots (ws ++ fs)
  -- the last slot that waits; where none waits, nothing is said of it
  pub last : last_or h.last ws ≡ h.last
  pub sized : AllByRecursion Sized (messages at ws)

-- what always holds of a lane memory
pub record Lawful (s : Stored) : Type 0 where
  pub fits : s.heads.slots * slot_octets ≤ length s.octets
  pub linked : Linked (slot_of s.octets) s.heads (waiting_slots s) (free_slots s)
