use Rattle.link.proofs.Whole.{every_run}
use Rattle.link.proofs.laws.laws_hold.Goals as goal

pub returns : goal.returns
returns g c = every_run g.K.RecordKind.format g.met.K.RecordKind.lawful
