-- The signature of a message: the remainder of a cyclic redundancy check over 32 bits, bit by bit.
use Rattle.std.specs.Prelude.{ℕ, zero, suc, ◌*◌, ◌/◌, ◌%◌, ◌^◌, cond, List, [], ◌∷◌, ◌==◌, bit_xor}

-- the generator polynomial, its term of degree 32 left out
abbrev pub generator : ℕ
generator = 0xF4ACFB13

-- one bit leaves the register at the top; where it is 1, the generator is added to what stays
unfoldable pub bit_step : ℕ → ℕ
bit_step register = bit_xor (register * 2 % 2 ^ 32) (register / 2 ^ 31 * generator)

-- n bits leave the register, one after the other
abbrev pub bit_steps : ℕ → ℕ → ℕ
bit_steps zero register = register
bit_steps (suc n) register = bit_steps n (bit_step register)

-- an octet is added at the top of the register, and its eight bits leave
unfoldable pub octet_step : ℕ → ℕ → ℕ
octet_step register octet = bit_steps 8 (bit_xor register (octet * 2 ^ 24))

-- octets enter a register, the one at the highest address first
abbrev pub entered : ℕ → List ℕ → ℕ
entered register [] = register
entered register (octet ∷ higher) = octet_step (entered register higher) octet

-- the register starts at 1
abbrev pub remainder : List ℕ → ℕ
remainder octets = entered 1 octets

-- a remainder 0 is sent as 1
abbrev pub sent : ℕ → ℕ
sent register = cond (register == 0) 1 register

-- what stands in the last four octets of a response, of the octets before them
abbrev pub signature : List ℕ → ℕ
signature octets = sent (remainder octets)
