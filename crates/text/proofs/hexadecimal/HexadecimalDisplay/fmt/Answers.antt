use Rattle.std.proofs.Common.{rules, ◌≡◌, ◌+◌, ◌≤◌, ◌++◌, length, take, slice_range, ap, ◌∙◌, arith, true, refl}
use Rattle.std.proofs.Output.{has_written_append, has_written_of_eq}
use Rattle.text.specs.Hexadecimal.{hexadecimal_text}
use Rattle.text.proofs.Pairs.{part_written}
use Rattle.text.proofs.hexadecimal.HexadecimalDisplay.fmt.Goals as goal

pub loop-at-preserved : goal.loop-at-preserved
loop-at-preserved g c =
    let os = c.args.self.now.0.now in
    let i = c.loop-at.at in
    let j = c.loop-at.at + c.min.result in
    let within : j ≤ length os = search rules in
    let text : c.unwrap.result.now ≡ hexadecimal_text (slice_range os i j) = search rules in
    let whole : hexadecimal_text (take i os) ++ c.unwrap.result.now ≡ hexadecimal_text (take j os) =
    ap (λ t. hexadecimal_text (take i os) ++ t) text ∙ part_written os i j (omega arith) in (
      within,
      λ plain.
          let before = c.loop-at.invariant.1 plain in
          has_written_of_eq g.W.Write.write_str_gives _ _ _ _ whole
          (has_written_append g.W.Write.write_str_gives _ _ _ _ _ before (c.in_ok-write_str.ensures.writes before.plain (refl {a = true}))),
    )
