use Rattle.std.proofs.Common.{◌≡◌, ◌-◌, ◌≤◌, take, length, ap, ◌∙◌, arith}
use Rattle.std.proofs.lemmas.Bool.{le-ltb}
use Rattle.std.proofs.lemmas.List.{length-drop}
use Rattle.message.specs.Layout.{u32_at}
use Rattle.message.proofs.Fours.{four_at}
use Rattle.message.proofs.sound.is_sound.Goals as goal

pub returns-in-Some : goal.returns-in-Some
returns-in-Some c =
    let m = c.args.message.now in
    let parts = c.in-Some.ensures.cases in
    let long : 4 ≤ length c.in-Some.last.now = rw parts.1 (simp length-drop (omega arith)) in
    let word : c.from_le_bytes.result ≡ u32_at m (length m - 4) =
    c.from_le_bytes.ensures ∙ four_at m c.in-Some.last.now (length m - 4) long (ap (take 4) parts.1) in
    simp (word, c.signature.ensures, parts.0, le-ltb (length m) 26 (omega arith))
