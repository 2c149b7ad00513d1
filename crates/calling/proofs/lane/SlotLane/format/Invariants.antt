use Rattle.std.proofs.Common.{◌≡◌, ℕ, ◌+◌}
use Rattle.calling.specs.Chains.{Chain}
use Rattle.calling.specs.Slots.{slot_of}
use Rattle.calling.proofs.Formats.{after}
use Rattle.calling.proofs.lane.SlotLane.format.Given as goal

-- the slots after k are chained
abbrev pub invariant-loop-k : goal.invariant-loop-k
invariant-loop-k l = (n : ℕ) × (n + l.k ≡ l.slots) × Chain (slot_of l.memory) l.free (after n l.k)
