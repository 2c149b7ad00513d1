use Rattle.std.proofs.Common.{ap, ◌∙◌, rules}
use Rattle.calling.specs.Slots.{Slot, slot_of}
use Rattle.calling.proofs.Slots.{changes, reads_at}
use Rattle.calling.proofs.slot.link_slot.Goals as goal

pub returns : goal.returns
returns c =
    let m = c.args.memory.now in
    let was = reads_at m c.args.k c.offset-at.result c.requires c.offset-at.ensures in
    changes m c.args.k c.offset-at.result _
    (record { next = c.args.next; message = (slot_of m c.args.k).message }) c.requires c.offset-at.ensures (search rules)
    (search rules ∙ ap (λ (s : Slot). record { next = c.args.next; message = s.message }) was)
