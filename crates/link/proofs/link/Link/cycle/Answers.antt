use Rattle.std.proofs.Common.{refl}
use Rattle.link.proofs.Whole.{cycle_runs}
use Rattle.link.proofs.link.Link.cycle.Goals as goal

pub returns-clause-runs : goal.returns-clause-runs
returns-clause-runs g c = cycle_runs g.met.K.RecordKind.lawful c.cycle.ensures.setup refl c.cycle.result c.cycle.ensures.cycled
