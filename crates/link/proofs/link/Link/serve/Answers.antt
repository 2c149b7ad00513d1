use Rattle.std.proofs.Common.{refl}
use Rattle.link.proofs.Whole.{serve_runs}
use Rattle.link.proofs.link.Link.serve.Goals as goal

pub returns-clause-runs : goal.returns-clause-runs
returns-clause-runs g c = serve_runs g.met.K.RecordKind.lawful refl c.serve.ensures.parameters c.serve.result c.serve.ensures.served
