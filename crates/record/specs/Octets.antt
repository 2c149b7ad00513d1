-- Numbers as octets, the lowest first.
use Rattle.std.specs.Prelude.{ℕ, zero, suc, ◌+◌, ◌*◌, ◌/◌, ◌%◌, ◌<◌, Bool, true, false, List, [], ◌∷◌}

-- each number of the list is an octet
abbrev pub Octets : List ℕ → Type 0
Octets [] = Unit {0}
Octets (x ∷ xs) = (x < 256) × Octets xs

-- the k lowest octets of a number
abbrev pub le : ℕ → ℕ → List ℕ
le zero n = []
le (suc k) n = n % 256 ∷ le k (n / 256)

-- the number that octets stand for
abbrev pub un : List ℕ → ℕ
un [] = 0
un (x ∷ xs) = x + un xs * 256

-- a Boolean is sent as 1 or 0
abbrev pub bit : Bool → ℕ
bit true = 1
bit false = 0
