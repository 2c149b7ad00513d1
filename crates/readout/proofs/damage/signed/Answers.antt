use Rattle.std.proofs.Common.{◌≡◌, ℕ, ◌/◌, ◌%◌, [], ◌∷◌, take, drop, refl, ap, ◌∙◌, arith}
use native.Mathlib.Nat.{div-div-eq-div-mul}
use Rattle.std.proofs.lemmas.List.{append_assoc}
use Rattle.std.proofs.lemmas.Slice.{put_mid-paste}
use Rattle.record.specs.Octets.{le}
use Rattle.signature.specs.Signature.{signature}
use Rattle.readout.proofs.damage.signed.Goals as goal

-- the four octets of a number, as the library writes them and as the definitions do
four_written : (n : ℕ) → n % 256 ∷ n / 256 % 256 ∷ n / 65536 % 256 ∷ n / 16777216 % 256 ∷ [] ≡ le 4 n
four_written n = simp div-div-eq-div-mul

pub returns : goal.returns
returns c =
    put_mid-paste 28 4 c.args.message c.copy_from_slice.new.self (le 4 (signature (take 28 c.args.message))) 4
    (c.copy_from_slice.ensures.after ∙ c.to_le_bytes.ensures ∙ four_written c.signature-signature.result ∙ ap (le 4) c.signature-signature.ensures) (omega arith) refl
    ∙ append_assoc (take 28 c.args.message) (le 4 (signature (take 28 c.args.message))) (drop 32 c.args.message)
