use Rattle.std.proofs.Common.{◌≡◌, length, ◌∙◌, arith}
use Rattle.std.proofs.lemmas.Bool.{eq-eqb}
use Rattle.message.specs.Layout.{u32_at}
use Rattle.message.proofs.Fours.{word_read}
use Rattle.message.proofs.request.Request.read.Goals as goal

pub returns : goal.returns
returns c =
    let s = c.args.octets.now in
    let consumer : c.from_le_bytes.result ≡ u32_at s 0 = c.from_le_bytes.ensures ∙ word_read s 0 (omega arith) in
    let number : c.from_le_bytes-2.result ≡ u32_at s 4 = c.from_le_bytes-2.ensures ∙ word_read s 4 (omega arith) in
    simp (consumer, number, c.from.ensures, eq-eqb (length s) 9 (omega arith))
