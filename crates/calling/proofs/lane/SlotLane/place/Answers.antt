use Rattle.std.proofs.Common.{arith, ap, ◌∙◌}
use Rattle.calling.specs.Slots.{Slot}
use Rattle.calling.proofs.Stores.{free_within, last_within, stays_full, appends_first, appends_next}
use Rattle.calling.proofs.lane.SlotLane.place.Goals as goal

pub returns-then-k-eq0 : goal.returns-then-k-eq0
returns-then-k-eq0 c = rw (← c.self.view_is) (stays_full _ c.self.invariant c.args.message.octets.now c.if-k-eq0.true)

pub slot_at-requires : goal.slot_at-requires
slot_at-requires c = free_within _ c.self.invariant (omega arith)

pub fill_slot-requires : goal.fill_slot-requires
fill_slot-requires c = free_within _ c.self.invariant (omega arith)

pub invariant_of-self : goal.invariant_of-self
invariant_of-self c =
    (appends_first _ c.self.invariant (omega arith) _ (c.args.message.some, c.args.message.fits) _
    (c.next-free.ensures ∙ ap (λ (x : Slot). x.next) c.slot_at.ensures) c.fill_slot.new.memory
    (omega arith) c.if-h-eq0.true c.fill_slot.ensures).lawful

pub returns-then-h-eq0 : goal.returns-then-h-eq0
returns-then-h-eq0 c =
    rw (← c.self.view_is)
    (appends_first _ c.self.invariant (omega arith) _ (c.args.message.some, c.args.message.fits) _
    (c.next-free.ensures ∙ ap (λ (x : Slot). x.next) c.slot_at.ensures) c.fill_slot.new.memory
    (omega arith) c.if-h-eq0.true c.fill_slot.ensures)

pub link_slot-requires : goal.link_slot-requires
link_slot-requires c =
    let w = last_within _ c.self.invariant (omega arith) in
    (w.0, omega arith)

pub invariant_of-self-2 : goal.invariant_of-self-2
invariant_of-self-2 c =
    (appends_next _ c.self.invariant (omega arith) _ (c.args.message.some, c.args.message.fits) _
    (c.next-free.ensures ∙ ap (λ (x : Slot). x.next) c.slot_at.ensures) c.fill_slot.new.memory
    c.link_slot.new.memory (omega arith) (omega arith) c.fill_slot.ensures c.link_slot.ensures).lawful

pub returns : goal.returns
returns c =
    rw (← c.self.view_is)
    (appends_next _ c.self.invariant (omega arith) _ (c.args.message.some, c.args.message.fits) _
    (c.next-free.ensures ∙ ap (λ (x : Slot). x.next) c.slot_at.ensures) c.fill_slot.new.memory
    c.link_slot.new.memory (omega arith) (omega arith) c.fill_slot.ensures c.link_slot.ensures)
