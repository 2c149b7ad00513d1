use Rattle.std.proofs.Common.{◌≡◌, ◌+◌, ◌*◌, ◌/◌, ◌%◌, ◌<◌, length, length-set, take, subst, sym, get_or, slice_set, rules, ◌∙◌}
use Rattle.std.specs.Str.{IsUtf8}
use Rattle.text.specs.Digit.{digit}
use Rattle.text.specs.Hexadecimal.{hexadecimal_text}
use Rattle.text.proofs.Pairs.{pair_written, all_written, is_text}
use Rattle.text.proofs.hexadecimal.write_letters.Goals as goal

pub loop-at-preserved : goal.loop-at-preserved
loop-at-preserved c =
    let t = c.loop-at.letters in
    let os = c.args.octets.now in
    let i = c.loop-at.at in
    let a = c.digit_of.result in
    let b = c.digit_of-in-loop-at.result in
    let high : a ≡ digit (get_or os i 0 / 16) = search rules in
    let low : b ≡ digit (get_or os i 0 % 16) = search rules in
    let room : 2 * i + 1 < length t = search rules in
    let size = length-set (slice_set t (2 * i) a) (2 * i + 1) b ∙ length-set t (2 * i) a ∙ c.loop-at.invariant.0 in
    (size, pair_written t os i a b c.loop-at-test.true room high low c.loop-at.invariant.1)

pub returns : goal.returns
returns c =
    let t = c.loop-at.letters in
    let os = c.args.octets.now in
    let written : take (2 * length os) t ≡ hexadecimal_text os =
    all_written t os c.loop-at.at c.loop-at.auto.at-end c.loop-at-test.false c.loop-at.invariant.1 in
    let utf8 : IsUtf8 (take (2 * length os) t) = subst IsUtf8 (sym written) (is_text os (λ k. (c.type_inv.octets k).fits)) in
    record { letters = written; utf8 = utf8 }
