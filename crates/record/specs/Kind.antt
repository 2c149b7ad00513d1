-- What a record kind is, and the laws that every kind keeps.
use Rattle.std.specs.Prelude.{◌≡◌, ℕ, ◌^◌, ◌<◌, ◌≤◌, Bool, true, List, length, replicate, Ok, Result}
use Rattle.record.specs.declared.fault.RecordFault.{RecordFault}
use Rattle.record.specs.Octets.{Octets}

-- a kind: how many octets a record has, the structure signature, which records are sound, the octets of a sound
-- record, what octets are read as, and the record that is shown in place of process values
pub record Format (R : Type 0) : Type 0 where
  pub len : ℕ
  pub structure : ℕ
  pub sound : R → Bool
  pub octets : R → List ℕ
  pub parsed : List ℕ → Result R RecordFault
  pub substitute : R

-- the record is sound, and these are its octets
pub record Encodes {R : Type 0} (f : Format R) (r : R) (s : List ℕ) : Type 0 where
  pub sound : f.sound r ≡ true
  pub octets : f.octets r ≡ s

pub record Lawful {R : Type 0} (f : Format R) : Type 0 where
  -- a record has from 1 to 1,500 octets
  pub some : 1 ≤ f.len
  pub few : f.len ≤ 1500
  -- the structure signature has 32 bits
  pub signed : f.structure < 2 ^ 32
  -- a sound record has as many octets as the kind says
  pub whole : (r : R) → f.sound r ≡ true → length (f.octets r) ≡ f.len
  -- each of them is an octet
  pub small : (r : R) → f.sound r ≡ true → Octets (f.octets r)
  -- what was encoded decodes to the record
  pub read_back : (r : R) → f.sound r ≡ true → f.parsed (f.octets r) ≡ Ok r
  -- octets that decode are the octets of what they decode to, and that is sound
  pub written_back : (s : List ℕ) (r : R) → length s ≡ f.len → Octets s → f.parsed s ≡ Ok r → Encodes f r s
  -- zero octets decode to the substitute
  pub zeros : f.parsed (replicate f.len 0) ≡ Ok f.substitute
