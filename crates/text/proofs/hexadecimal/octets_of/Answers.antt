use Rattle.std.proofs.Common.{◌≡◌, ◌+◌, ◌*◌, ◌/◌, ◌<◌, length, length-set, get_or, vec_items, Some, rules, ◌∙◌}
use Rattle.text.specs.Digit.{digit_value}
use Rattle.text.specs.Hexadecimal.{paired}
use Rattle.text.proofs.Pairs.{pair_read}
use Rattle.text.proofs.hexadecimal.octets_of.Goals as goal

pub loop-at-preserved : goal.loop-at-preserved
loop-at-preserved c =
    let s = c.as_bytes-letters.result.now in
    let os = vec_items c.loop-at.octets in
    let i = c.loop-at.at in
    let o = c.octet_of.result in
    let room : length os ≡ length s / 2 = c.loop-at.invariant.0 in
    let within : i < length os = search rules in
    let is : Some o ≡ paired (digit_value (get_or s (2 * i) 0)) (digit_value (get_or s (2 * i + 1) 0)) = search rules in
    (length-set os i o ∙ room, pair_read s os i o within room is c.loop-at.invariant.1)
