use Rattle.record.specs.OctetsLemmas.{octets_of}
use Rattle.rounds.specs.BlocksLemmas.{fit_by_length}
use Rattle.rounds.proofs.block.fit.Goals as goal

pub returns-clause-meaning : goal.returns-clause-meaning
returns-clause-meaning c =
    let octets = c.args.octets.now in
    fit_by_length octets (octets_of octets c.type_inv.octets)
