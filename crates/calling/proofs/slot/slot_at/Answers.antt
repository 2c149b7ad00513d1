use Rattle.calling.proofs.Slots.{reads_at}
use Rattle.calling.proofs.slot.slot_at.Goals as goal

pub returns : goal.returns
returns c =
    let whole = rw c.unwrap.ensures at c.as_array.ensures.cases in
    rw whole.same (reads_at c.args.memory.now c.args.k c.offset-at.result c.requires c.offset-at.ensures)
