-- A slot's octets within a memory.
use Rattle.std.proofs.Common.{◌≡◌, ℕ, zero, suc, ◌+◌, ◌-◌, ◌*◌, ◌<◌, ◌≤◌, ◌≢◌, List, length, take, drop, sym, refl, ap, ◌∙◌, ⊎_elim, arith}
use borrow.Rule.Slice.PartMut.{put_mid}
use Rattle.std.specs.List.{between}
use Rattle.std.proofs.lemmas.Slice.{between_is, between-put_mid, take-put_mid_below, drop-put_mid}
use Rattle.std.proofs.lemmas.Bool.{cases_lt}
use Rattle.calling.specs.Slots.{Slot, Changed, Within, slot_octets, slot_read, slot_of}

-- slot k + 1, which the code has at a
module _ (m : List ℕ) (k a : ℕ) (o : a ≡ k * slot_octets) where
  reads : slot_read (between a (a + slot_octets) m) ≡ slot_of m (suc k)
  unfolding slot_of
  reads = ap (λ z. slot_read (between z (z + slot_octets) m)) o

  -- other octets there
  module _ (s : List ℕ) (w : suc k * slot_octets ≤ length m) (e : length s ≡ slot_octets) where
    abbrev written : List ℕ
    written = put_mid a (a + slot_octets - a) m s

    reads_written : slot_of written (suc k) ≡ slot_read s
    unfolding slot_of
    reads_written =
        ap slot_read
        (ap (λ z. between z (z + slot_octets) written) (sym o)
        ∙ between-put_mid a (a + slot_octets - a) m s (a + slot_octets) (omega arith) (omega arith))

    reads_others : (j : ℕ) → j ≢ suc k → slot_of written j ≡ slot_of m j
    unfolding slot_of
    reads_others zero ne = refl
    reads_others (suc j) ne =
        let b = j * slot_octets in
        ap slot_read
        (⊎_elim
        (λ (lt : j < k).
        between_is written b (b + slot_octets)
        ∙ (ap (drop b) (take-put_mid_below a (a + slot_octets - a) m s (b + slot_octets) (omega arith) (omega arith))
        ∙ sym (between_is m b (b + slot_octets))))
        (λ (le : k ≤ j).
        let lt : k < j = omega arith in
        ap (take (b + slot_octets - b)) (drop-put_mid a (a + slot_octets - a) m s b (omega arith) (omega arith) (omega arith)))
        (cases_lt j k))

-- slot k, which the code has at a
pub reads_at : (m : List ℕ) (k a : ℕ) → Within m k → a ≡ (k - 1) * slot_octets → slot_read (between a (a + slot_octets) m) ≡ slot_of m k
reads_at m zero a w o = absurd (omega arith)
reads_at m (suc k) a w o = reads m k a (omega arith)

pub changes : (m : List ℕ) (k a : ℕ) (s : List ℕ) (x : Slot) → Within m k → a ≡ (k - 1) * slot_octets → length s ≡ slot_octets
    → slot_read s ≡ x → Changed (slot_of m) (slot_of (put_mid a (a + slot_octets - a) m s)) k x
changes m zero a s x w o e r = absurd (omega arith)
changes m (suc k) a s x w o e r =
    let o' : a ≡ k * slot_octets = omega arith in
    record { this = reads_written m k a o' s w.1 e ∙ r; others = reads_others m k a o' s w.1 e }
