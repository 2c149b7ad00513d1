use Rattle.std.proofs.Common.{◌≢◌, get_or, arith, ◌∙◌}
use Rattle.std.proofs.lemmas.Str.Pattern.{starts_char}
use Rattle.text.proofs.Numerals.{read_unsigned}
use Rattle.text.proofs.number.short_of.Goals as goal

pub returns : goal.returns
returns c =
    let plus = starts_char 43 c.args.digits.now c.starts_with.result c.starts_with.ensures.cases (omega arith) (omega arith) in
    let no_plus : get_or c.args.digits.now 0 0 ≢ 43 = λ e. cc (plus.1 e) in
    c.ok.ensures.value
    ∙ read_unsigned 16 c.args.radix c.args.digits.now c.from_str_radix.result c.requires.highest no_plus c.from_str_radix.ensures.value
