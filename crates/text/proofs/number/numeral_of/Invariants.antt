use Rattle.std.proofs.Common.{◌≡◌, ◌^◌, ◌<◌, drop, Some}
use Rattle.text.specs.Number.{continued, numeral}
use Rattle.text.proofs.number.numeral_of.Given as goal

-- the number so far and the digits to come write the whole number
abbrev pub invariant-loop-letter : goal.invariant-loop-letter
invariant-loop-letter l =
    (continued l.radix (Some l.n) (drop l.letter-index l.digits) ≡ numeral l.radix l.digits) × (l.n < 2 ^ 64)
