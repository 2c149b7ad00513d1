use Rattle.std.proofs.Common.{◌≡◌, ◌*◌, length, take}
use Rattle.text.specs.Hexadecimal.{hexadecimal_text}
use Rattle.text.proofs.hexadecimal.write_letters.Given as goal

-- the letters so far are the text of the octets so far
abbrev pub invariant-loop-at : goal.invariant-loop-at
invariant-loop-at l = (length l.letters ≡ 64) × (take (2 * l.at) l.letters ≡ hexadecimal_text (take l.at l.octets))
