-- The laws of the block record.
use Rattle.std.specs.Prelude.{◌≡◌, ℕ, ◌<◌, Bool, true, false, ◌&&◌, List, [], ◌∷◌, length, Ok, ◌==◌, refl}
use Rattle.std.proofs.Common.{sym, ap, ◌∙◌, arith, lit<, lit≤}
use Rattle.record.specs.Kind.{Lawful, Encodes}
use Rattle.record.specs.Octets.{Octets}
use Rattle.record.specs.Results.{ok_is}
use Rattle.rounds.specs.declared.block.Block.{Block}
use Rattle.rounds.specs.Blocks.{all_octets, octets_fit, block_sound, block_parsed, block_format}

and_true : (b : Bool) → (b && true) ≡ b
and_true true = refl
and_true false = refl

all_of : (s : List ℕ) → Octets s → all_octets s ≡ true
all_of [] o = refl
all_of (x ∷ xs) o = let low : x < 256 = o.0 in let rest : all_octets xs ≡ true = all_of xs o.1 in grind arith

all_are : (s : List ℕ) → all_octets s ≡ true → Octets s
all_are [] h = tt
all_are (x ∷ xs) h =
    let low : x < 256 = grind arith in
    let rest : all_octets xs ≡ true = grind arith in
    (low, all_are xs rest)

-- octets fit where there are 1,500 of them
pub fit_by_length : (s : List ℕ) → Octets s → (length s == 1500) ≡ octets_fit s
fit_by_length s o = sym (ap (λ b. (length s == 1500) && b) (all_of s o) ∙ and_true (length s == 1500))

fits : (s : List ℕ) → length s ≡ 1500 → Octets s → octets_fit s ≡ true
fits s long o = let all : all_octets s ≡ true = all_of s o in grind arith

long : (b : Block) → block_sound b ≡ true → length b.octets ≡ 1500
long b h = grind arith

small : (b : Block) → block_sound b ≡ true → Octets b.octets
small b h = let all : all_octets b.octets ≡ true = grind arith in all_are b.octets all

written : (s : List ℕ) (b : Block) → length s ≡ 1500 → Octets s → block_parsed s ≡ Ok b → Encodes block_format b s
written s b long o h =
    let is : s ≡ b.octets = ap (λ (r : Block). r.octets) (ok_is h) in
    record { sound = ap octets_fit (sym is) ∙ fits s long o; octets = sym is }

pub block_lawful : Lawful block_format
block_lawful = record {
  some = lit≤ tt;
  few = lit≤ tt;
  signed = lit< tt;
  whole = long;
  small = small;
  read_back = λ r h. refl;
  written_back = written;
  zeros = refl;
}
