use Rattle.std.proofs.Common.{◌≡◌, rules}
use Rattle.calling.specs.Chains.{no_slots}
use Rattle.calling.proofs.Formats.{unused}
use Rattle.calling.proofs.lane.SlotLane.new.Goals as goal

pub invariant_of-result : goal.invariant_of-result
invariant_of-result c =
    let none : c.default-heads.result ≡ no_slots = search rules in
    rw none (unused c.args.memory.now).0
