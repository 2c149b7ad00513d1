use Rattle.link.proofs.Whole.{new_reached}
use Rattle.link.proofs.link.Link.new.Goals as goal

pub returns-clause-reached : goal.returns-clause-reached
returns-clause-reached g c =
    new_reached g.K.RecordKind.format (record { parameters = c.args.parameters; start = c.args.start }) c.new.result
    c.new-2.result (g.C.Carrier.lanes c.args.carrier) c.new.ensures.setup c.new.ensures.state c.new-2.ensures.parameters
    c.new-2.ensures.memory (g.met.C.Carrier.slots c.args.carrier)
