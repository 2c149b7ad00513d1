use Rattle.std.proofs.Common.{◌≡◌, ◌*◌, ◌/◌, length, take, drop, vec_items}
use Rattle.text.specs.Hexadecimal.{octets_read}
use Rattle.text.proofs.Pairs.{followed}
use Rattle.text.proofs.hexadecimal.octets_of.Given as goal

-- the octets so far and the letters to come are the whole text's octets
abbrev pub invariant-loop-at : goal.invariant-loop-at
invariant-loop-at l =
    (length (vec_items l.octets) ≡ length l.letters / 2)
    × (followed (take l.at (vec_items l.octets)) (octets_read (drop (2 * l.at) l.letters)) ≡ octets_read l.letters)
