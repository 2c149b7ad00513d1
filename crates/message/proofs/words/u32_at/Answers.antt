use Rattle.std.proofs.Common.{◌∙◌, arith}
use Rattle.message.proofs.Fours.{chunk_read}
use Rattle.message.proofs.words.u32_at.Goals as goal

pub returns : goal.returns
returns c =
    let read = rw c.unwrap.ensures at c.try_into.ensures in
    c.from_le_bytes.ensures ∙ chunk_read c.args.octets.now c.unwrap.result c.args.at _ (omega arith) read.1
