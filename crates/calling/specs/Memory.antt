-- Which memories can be lanes.
use Rattle.std.specs.Prelude.{ℕ, ◌*◌, ◌%◌, Bool, cond, ◌&&◌, Ok, Err, Result, ◌==◌, nat_le}
use Rattle.calling.specs.declared.memory.MemoryRefusal.{MemoryRefusal}
use Rattle.calling.specs.declared.memory.MemoryRefusal.TheVariants.{NotWholeSlots}
use Rattle.calling.specs.Slots.{slot_octets}

-- from 1 to 16 whole slots
abbrev pub whole_slots : ℕ → Bool
whole_slots octets = nat_le slot_octets octets && nat_le octets (16 * slot_octets) && octets % slot_octets == 0

-- any other memory is refused
abbrev pub memory_checked : ℕ → Result Unit MemoryRefusal
memory_checked octets = cond (whole_slots octets) (Ok tt) (Err NotWholeSlots)

abbrev pub memory_number : MemoryRefusal → ℕ
memory_number NotWholeSlots = 5
