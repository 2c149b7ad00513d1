use Rattle.std.proofs.Common.{◌≡◌, rules}
use Rattle.calling.specs.Chains.{no_slots}
use Rattle.calling.proofs.Formats.{unused}
use Rattle.calling.proofs.lane.SlotLane.close.Goals as goal

pub invariant_of-self : goal.invariant_of-self
invariant_of-self c =
    let none : c.default-self-inside.result ≡ no_slots = search rules in
    rw none (unused c.self.inside.memory.now).0
