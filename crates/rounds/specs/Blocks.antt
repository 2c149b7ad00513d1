-- The block record: 1,500 octets.
use Rattle.std.specs.Prelude.{ℕ, Bool, true, ◌&&◌, List, [], ◌∷◌, length, replicate, Ok, Result, ◌==◌, nat_lt}
use Rattle.record.specs.declared.fault.RecordFault.{RecordFault}
use Rattle.record.specs.Kind.{Format}
use Rattle.rounds.specs.declared.block.Block.{Block}

-- each number of the list is an octet
abbrev pub all_octets : List ℕ → Bool
all_octets [] = true
all_octets (x ∷ xs) = nat_lt x 256 && all_octets xs

abbrev pub octets_fit : List ℕ → Bool
octets_fit s = length s == 1500 && all_octets s

-- a block of 1,500 octets is sound: every one that a program can hold
abbrev pub block_sound : Block → Bool
block_sound b = octets_fit b.octets

abbrev pub block_octets : Block → List ℕ
block_octets b = b.octets

-- any octets are a block's
abbrev pub block_parsed : List ℕ → Result Block RecordFault
block_parsed s = Ok (record { octets = s })

abbrev pub block_format : Format Block
block_format = record {
  len = 1500;
  structure = 0x424C4F43;
  sound = block_sound;
  octets = block_octets;
  parsed = block_parsed;
  substitute = record { octets = replicate 1500 0 };
}
