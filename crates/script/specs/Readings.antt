-- Numbers read from words.
use Rattle.std.specs.Prelude.{ℕ, List, Some, None, Option}
use Rattle.script.specs.Numbers.{word}
use Rattle.text.specs.Number.{number}

abbrev pub word_found : Option ℕ → Option ℕ
word_found None = None
word_found (Some n) = word n

-- the number of 32 bits that a text writes
abbrev pub word_read : List ℕ → Option ℕ
word_read text = word_found (number text)
