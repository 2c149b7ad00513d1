use Rattle.link.proofs.Whole.{place_runs}
use Rattle.link.proofs.link.Link.place.Goals as goal

pub returns-clause-runs : goal.returns-clause-runs
returns-clause-runs g c = place_runs g.met.K.RecordKind.lawful c.place.ensures
