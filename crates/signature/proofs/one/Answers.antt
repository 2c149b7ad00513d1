use Rattle.std.proofs.Common.{arith}
use Rattle.signature.proofs.Octets.{one_by_row}
use Rattle.signature.proofs.one.Goals as goal

pub returns : goal.returns
returns c = one_by_row c.args.register c.args.octet (omega arith) (omega arith) c.row.ensures
