use Rattle.std.proofs.Common.{◌^◌, length, get_or, sym, ap, ◌∙◌, arith}
use Rattle.std.proofs.lemmas.Bool.{eqb-false}
use Rattle.text.specs.Digit.{digit_value}
use Rattle.text.specs.Number.{below, appended}
use Rattle.text.proofs.Numerals.{started, still_below, is_below, no_number, ended}
use Rattle.text.proofs.number.numeral_of.Goals as goal

pub loop-letter-init : goal.loop-letter-init
loop-letter-init c =
    let s = c.args.digits.now in
    (started c.args.radix s (eqb-false (length s) 0 (sym c.is_empty.ensures ∙ c.if-is_empty.false)), omega arith)

pub returns-in-None : goal.returns-in-None
returns-in-None c =
    let none = sym c.with_digit.ensures ∙ c.in-None.is in
    sym (no_number (2 ^ 64) c.args.radix c.loop-letter.n c.args.digits.now c.loop-letter.letter-index
    c.requires c.loop-letter-test.true none)
    ∙ ap (below (2 ^ 64)) c.loop-letter.invariant.0

pub loop-letter-preserved : goal.loop-letter-preserved
loop-letter-preserved c =
    let i = c.loop-letter.letter-index in
    let o = appended c.args.radix c.loop-letter.n (digit_value (get_or c.args.digits.now i 0)) in
    let some = sym c.with_digit.ensures ∙ c.in-Some.is in (
      still_below (2 ^ 64) c.args.radix c.loop-letter.n c.in-Some.longer c.args.digits.now i
          c.loop-letter-test.true some ∙ c.loop-letter.invariant.0,
      is_below (2 ^ 64) c.in-Some.longer o some,
    )

pub returns : goal.returns
returns c =
    sym (ended (2 ^ 64) c.args.radix c.loop-letter.n c.args.digits.now c.loop-letter.letter-index
    (omega arith) c.loop-letter.invariant.1)
    ∙ ap (below (2 ^ 64)) c.loop-letter.invariant.0
