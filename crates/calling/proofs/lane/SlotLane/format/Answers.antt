use Rattle.std.proofs.Common.{◌≡◌, suc, ◌-◌, refl, arith, rules}
use Rattle.calling.specs.Chains.{no_slots}
use Rattle.calling.specs.Slots.{slot_of}
use Rattle.calling.proofs.Formats.{one_more, all_chained}
use Rattle.calling.proofs.lane.SlotLane.format.Goals as goal

pub loop-k-init : goal.loop-k-init
loop-k-init c = (0, omega arith, refl)

pub loop-k-preserved : goal.loop-k-preserved
loop-k-preserved c =
    let i = c.loop-k.invariant in
    let at = slot_of c.loop-k.memory in
    let k = c.loop-k.k in (
      suc i.0,
      omega (arith, i.1),
      one_more at (slot_of c.link_slot.new.memory) i.0 (k - 1) k c.loop-k.free (at k).message (omega arith) i.2
          c.link_slot.ensures,
    )

pub invariant_of-self : goal.invariant_of-self
invariant_of-self c =
    let none : c.default.result ≡ no_slots = search rules in
    rw none (all_chained c.loop-k.memory _ _ _ (omega arith) (omega arith) c.loop-k.invariant).0

pub returns : goal.returns
returns c =
    let r = all_chained c.loop-k.memory _ _ _ (omega arith) (omega arith) c.loop-k.invariant in
    let none : c.default.result ≡ no_slots = search rules in
    rw (none, ← c.self.view_is) (record { lawful = r.0; slots = refl; holds = r.1 })
