use Rattle.std.proofs.Common.{arith}
use Rattle.calling.proofs.Meanings.{brings}
use Rattle.calling.proofs.CallingCarrier.fetch.Goals as goal
use Rattle.carrier.specs.declared.lane.Lane.TheVariants.{Up, Down}

pub returns-in-Up-clause-carries : goal.returns-in-Up-clause-carries
returns-in-Up-clause-carries c =
    rw c.in-Up.is
    (brings Up c.args.self.now.up c.args.self.now.down _ c.args.buffer.now c.fetch.new.buffer c.fetch.result (omega arith)
    c.fetch.ensures)

pub returns-in-Down-clause-carries : goal.returns-in-Down-clause-carries
returns-in-Down-clause-carries c =
    rw c.in-Down.is
    (brings Down c.args.self.now.up c.args.self.now.down _ c.args.buffer.now c.fetch-in-Down.new.buffer c.fetch-in-Down.result
    (omega arith) c.fetch-in-Down.ensures)
