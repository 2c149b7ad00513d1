use Rattle.std.proofs.Common.{refl, arith}
use Rattle.carrier.specs.declared.lane.Lane.TheVariants.{Up, Down}
use Rattle.carrier.proofs.Cells.{shows}
use Rattle.carrier.proofs.publishing.PublishingCarrier.fetch.Goals as goal

pub returns-in-Up : goal.returns-in-Up
returns-in-Up c =
    let p = c.args.self.now in
    rw c.in-Up.is (shows Up p.up p.down p.up c.args.buffer.now c.show.new.buffer c.show.result refl (omega arith)
    c.show.ensures.answer c.show.ensures.buffer)

pub returns-in-Down : goal.returns-in-Down
returns-in-Down c =
    let p = c.args.self.now in
    rw c.in-Down.is (shows Down p.up p.down p.down c.args.buffer.now c.show-in-Down.new.buffer c.show-in-Down.result
    refl (omega arith) c.show-in-Down.ensures.answer c.show-in-Down.ensures.buffer)
