-- The three identity numbers of a provider.
use Rattle.std.specs.Prelude.{ℕ, ◌-◌, List, [], ◌∷◌, bit_xor, slice_index}
use Rattle.message.specs.declared.identity.Identities.{Identities}
use Rattle.message.specs.declared.parameters.Parameters.{Parameters}
use Rattle.record.specs.Kind.{Format}

-- the codes of the levels 1 to 4
abbrev pub level_codes : List ℕ
level_codes = 0x11912881 ∷ 0x647C4654 ∷ 0xDEAA9DEE ∷ 0xAB47F33B ∷ []

-- the first word and the code of the level
abbrev pub identity_1 : Parameters → ℕ
identity_1 p = bit_xor p.base_id.w1 (slice_index level_codes (p.level - 1))

-- the second word and the structure signature of the kind
abbrev pub identity_2 : {R : Type 0} → Format R → Parameters → ℕ
identity_2 f p = bit_xor p.base_id.w2 f.structure

-- the third and fourth words and the provider number
abbrev pub identity_3 : Parameters → ℕ
identity_3 p = bit_xor (bit_xor p.base_id.w3 p.base_id.w4) p.provider_id

abbrev pub identities_of : {R : Type 0} → Format R → Parameters → Identities
identities_of f p = record { first = identity_1 p; second = identity_2 f p; third = identity_3 p }
