-- Octets as text, two hexadecimal digits each.
use Rattle.std.specs.Prelude.{ℕ, ◌+◌, ◌*◌, ◌/◌, ◌%◌, List, [], ◌∷◌, Some, None, Option}
use Rattle.std.specs.Option.{option_map}
use Rattle.text.specs.Digit.{digit, digit_value}

-- the octet of a high and a low digit's values
abbrev pub paired : Option ℕ → Option ℕ → Option ℕ
paired None low = None
paired (Some high) None = None
paired (Some high) (Some low) = Some (high * 16 + low)

-- an octet before others, where all are there
abbrev pub before : Option ℕ → Option (List ℕ) → Option (List ℕ)
before None others = None
before (Some octet) others = option_map (λ os. octet ∷ os) others

-- the octets that a text writes; none where a letter is no digit, or a digit stands alone
abbrev pub octets_read : List ℕ → Option (List ℕ)
octets_read [] = Some []
octets_read (high ∷ []) = None
octets_read (high ∷ (low ∷ s)) = before (paired (digit_value high) (digit_value low)) (octets_read s)

-- the text of octets
abbrev pub hexadecimal_text : List ℕ → List ℕ
hexadecimal_text [] = []
hexadecimal_text (octet ∷ os) = digit (octet / 16) ∷ (digit (octet % 16) ∷ hexadecimal_text os)
