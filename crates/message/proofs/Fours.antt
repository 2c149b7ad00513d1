-- Numbers of 32 bits in octets, as the library reads them and as the definitions do.
use Rattle.std.proofs.Common.{◌≡◌, ℕ, ◌+◌, ◌*◌, ◌≤◌, List, [], ◌∷◌, length, get_or, take, drop, refl, sym, ap, ◌∙◌, add-zero, arith}
use Rattle.std.specs.Array.{IsWholeChunk}
use Rattle.std.proofs.Math.Seq.{take-length}
use Rattle.std.proofs.lemmas.List.{get_or-drop, length-drop}
use Rattle.message.specs.Layout.{u32_at}
use Rattle.record.specs.Octets.{un}

four_read : (d : List ℕ) → 4 ≤ length d
    → get_or d 0 0 + get_or d 1 0 * 256 + get_or d 2 0 * 65536 + get_or d 3 0 * 16777216 ≡ un (take 4 d)
four_read [] h = absurd (omega arith)
four_read (a ∷ []) h = absurd (omega arith)
four_read (a ∷ b ∷ []) h = absurd (omega arith)
four_read (a ∷ b ∷ c ∷ []) h = absurd (omega arith)
four_read (a ∷ b ∷ c ∷ d ∷ rest) h = omega arith

-- four octets that stand at a place
pub four_at : (s y : List ℕ) (at : ℕ) → 4 ≤ length y → take 4 y ≡ take 4 (drop at s)
    → get_or y 0 0 + get_or y 1 0 * 256 + get_or y 2 0 * 65536 + get_or y 3 0 * 16777216 ≡ u32_at s at
unfolding u32_at
four_at s y at h e = four_read y h ∙ ap un e

-- read one by one
pub word_read : (s : List ℕ) (at : ℕ) → at + 4 ≤ length s
    → get_or s at 0 + get_or s (at + 1) 0 * 256 + get_or s (at + 2) 0 * 65536 + get_or s (at + 3) 0 * 16777216 ≡ u32_at s at
word_read s at h =
    simp (get_or-drop, add-zero) at (four_at s (drop at s) at (simp length-drop (omega arith)) refl)

-- taken out as an array
pub chunk_read : (s y : List ℕ) (at n : ℕ) → n ≡ 4 → IsWholeChunk (take n (drop at s)) y 4
    → get_or y 0 0 + get_or y 1 0 * 256 + get_or y 2 0 * 65536 + get_or y 3 0 * 16777216 ≡ u32_at s at
chunk_read s y at n k h =
    let long : length y ≡ 4 = ap length h.same ∙ h.long in
    four_at s y at (omega (arith, long))
    (ap (λ m. take m y) (sym long) ∙ take-length y ∙ h.same ∙ ap (λ m. take m (drop at s)) k)
