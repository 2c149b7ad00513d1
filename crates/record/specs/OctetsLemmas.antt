-- A number goes into octets and back, and octets into a number and back.
use Rattle.std.specs.Prelude.{◌≡◌, ℕ, zero, suc, ◌+◌, ◌*◌, ◌/◌, ◌%◌, ◌^◌, ◌<◌, List, [], ◌∷◌, ◌++◌, length, slice_index, refl}
use Rattle.std.proofs.Common.{div-lt_iff_lt-mul, pow-suc, arith, lit<, Fits}
use Rattle.std.specs.Int.{w8}
use Rattle.record.specs.Octets.{Octets, le, un}

pub un_le : (k n : ℕ) → n < 256 ^ k → un (le k n) ≡ n
un_le zero n h = omega arith
un_le (suc k) n h =
    let less : n / 256 < 256 ^ k = (div-lt_iff_lt-mul (lit< tt)).1 (rw pow-suc at h) in
    rw (un_le k (n / 256) less) (omega arith)

pub le_un : (s : List ℕ) → Octets s → le (length s) (un s) ≡ s
le_un [] o = refl
le_un (x ∷ xs) o =
    let low : (x + un xs * 256) % 256 ≡ x = omega (arith, o.0) in
    let high : (x + un xs * 256) / 256 ≡ un xs = omega (arith, o.0) in
    rw (low, high, le_un xs o.1)

pub un_lt : (s : List ℕ) → Octets s → un s < 256 ^ length s
un_lt [] o = lit< tt
un_lt (x ∷ xs) o = rw pow-suc (omega (arith, un_lt xs o.1, o.0))

-- what a slice holds are octets
pub octets_of : (s : List ℕ) → ((i : ℕ) → Fits w8 (slice_index s i)) → Octets s
octets_of [] h = tt
octets_of (x ∷ xs) h = ((h 0).fits, octets_of xs (λ i. h (suc i)))

pub octets_le : (k n : ℕ) → Octets (le k n)
octets_le zero n = tt
octets_le (suc k) n = (omega arith, octets_le k (n / 256))

pub octets_append : (s t : List ℕ) → Octets s → Octets t → Octets (s ++ t)
octets_append [] t a b = b
octets_append (x ∷ xs) t a b = (a.0, octets_append xs t a.1 b)
