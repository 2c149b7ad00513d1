use Rattle.std.proofs.Common.{◌≡◌, string_bytes, arith, ap, ◌∙◌}
use Rattle.std.proofs.lemmas.Grind.{common_steps}
use Rattle.text.specs.Hexadecimal.{octets_read, hexadecimal_text}
use Rattle.text.proofs.ComesBack.{octets_come_back}
use Rattle.text.proofs.hexadecimal.comes_back.Goals as goal

pub returns : goal.returns
returns c =
    let written : string_bytes c.in_ok-text.text ≡ hexadecimal_text c.args.octets.now = grind (arith, common_steps) in
    let text = c.as_str.ensures.value ∙ written in
    let same = ap octets_read text ∙ octets_come_back c.args.octets.now (λ k. (c.type_inv.octets k).fits) in
    rw same at c.octets_of.ensures.octets
