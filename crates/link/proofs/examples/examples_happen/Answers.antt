use Rattle.link.proofs.Happening.{publishing_rounds, calling_rounds, hold_and_edge}
use Rattle.link.proofs.examples.examples_happen.Goals as goal

pub returns : goal.returns
returns c = record { publishing_rounds = publishing_rounds; calling_rounds = calling_rounds; hold_and_edge = hold_and_edge }
