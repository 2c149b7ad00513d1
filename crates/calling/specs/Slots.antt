-- The slots of a lane memory.
use Rattle.std.specs.Prelude.{◌≡◌, ℕ, zero, suc, ◌+◌, ◌*◌, ◌<◌, ◌≤◌, ◌≢◌, List, [], length, take, drop, slice_index}
use Rattle.std.specs.List.{between}
use Rattle.carrier.specs.Lanes.{Message}

-- how many octets a slot has
abbrev pub slot_octets : ℕ
slot_octets = 1536

-- a number of 16 bits, its lowest octet first
abbrev pub u16_at : List ℕ → ℕ → ℕ
u16_at s at = slice_index s at + slice_index s (at + 1) * 256

-- what a slot says: the number of the slot behind it in its chain (0: there is none), and a message
pub record Slot : Type 0 where
  pub next : ℕ
  pub message : Message

-- the next number, the message's length, the message
abbrev pub slot_read : List ℕ → Slot
slot_read s = record { next = u16_at s 0; message = take (u16_at s 2) (drop 4 s) }

-- slots are numbered from 1; number 0 is no slot
unfoldable pub slot_of : List ℕ → ℕ → Slot
slot_of m zero = record { next = 0; message = [] }
slot_of m (suc k) = slot_read (between (k * slot_octets) (k * slot_octets + slot_octets) m)

-- slot k lies in the memory
abbrev pub Within : List ℕ → ℕ → Type 0
Within m k = (0 < k) × (k * slot_octets ≤ length m)

-- after a change slot k says this, and every other slot what it said before
pub record Changed (before after : ℕ → Slot) (k : ℕ) (says : Slot) : Type 0 where
  pub this : after k ≡ says
  pub others : (j : ℕ) → j ≢ k → after j ≡ before j
