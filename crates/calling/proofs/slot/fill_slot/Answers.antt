use Rattle.std.proofs.Common.{arith}
use Rattle.calling.proofs.Slots.{changes}
use Rattle.calling.proofs.slot.fill_slot.Goals as goal

pub returns : goal.returns
returns c =
    changes c.args.memory.now c.args.k c.offset-at.result c.fill.new.slot
    (record { next = 0; message = c.args.message.octets.now }) c.requires c.offset-at.ensures (omega arith) c.fill.ensures
