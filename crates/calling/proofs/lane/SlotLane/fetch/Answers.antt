use Rattle.std.proofs.Common.{◌≤◌, length, Some, arith, ap, sym, subst, ◌∙◌}
use Rattle.calling.specs.Slots.{Slot}
use Rattle.calling.proofs.Stores.{first_within, first_sized, takes, takes_none}
use Rattle.calling.proofs.lane.SlotLane.fetch.Goals as goal
use Rattle.carrier.specs.Fetch.{brought_in}
use Rattle.message.specs.Response.{longest}

pub returns-then-k-eq0 : goal.returns-then-k-eq0
returns-then-k-eq0 c = rw (← c.self.view_is) (takes_none _ c.self.invariant c.args.buffer.now c.if-k-eq0.true)

pub slot_at-requires : goal.slot_at-requires
slot_at-requires c = first_within _ c.self.invariant (omega arith)

pub slot_at-requires-2 : goal.slot_at-requires-2
slot_at-requires-2 c = first_within _ c.self.invariant (omega arith)

pub copy_out-size-requires-clause-size : goal.copy_out-size-requires-clause-size
copy_out-size-requires-clause-size c =
    subst (λ (x : Slot). length x.message ≤ longest) (sym c.slot_at-2.ensures) (first_sized _ c.self.invariant (omega arith)).1

pub link_slot-requires : goal.link_slot-requires
link_slot-requires c = first_within _ c.self.invariant (omega arith)

pub invariant_of-self : goal.invariant_of-self
invariant_of-self c =
    (takes _ c.self.invariant (omega arith) c.link_slot.new.memory c.next-first.result (omega arith)
    (c.next-first.ensures ∙ ap (λ (x : Slot). x.next) c.slot_at.ensures) c.link_slot.ensures).0

pub returns : goal.returns
returns c =
    let was = c.slot_at-2.ensures in
    rw (← c.self.view_is)
    ((takes _ c.self.invariant (omega arith) c.link_slot.new.memory c.next-first.result (omega arith)
    (c.next-first.ensures ∙ ap (λ (x : Slot). x.next) c.slot_at.ensures) c.link_slot.ensures).1 c.args.buffer.now
    c.copy_out-size.new.buffer c.copy_out-size.result
    (c.copy_out-size.ensures.size ∙ ap (λ (x : Slot). length x.message) was)
    (c.copy_out-size.ensures.buffer ∙ ap (λ (x : Slot). brought_in (Some x.message) c.args.buffer.now) was))
