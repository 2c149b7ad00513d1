-- The laws of the register: a step keeps sums, and a number that has room moves up by one place.
use Rattle.std.proofs.Common.{◌≡◌, ℕ, zero, suc, ◌*◌, ◌/◌, ◌%◌, ◌^◌, ◌<◌, sym, refl, ap, ◌∙◌, add-zero, mul_assoc, zero-mul, le-mul_of_pos_right, arith}
use native.Mathlib.Nat.{pow-succ'}
use lib.Bits.{bit_xor, xor_assoc, xor_comm, xor_self, xor_zero_r, xor_mod, xor_shr, xor_lt, xor_block}
use Rattle.std.proofs.lemmas.Nat.{shr_below, pow_pos}
use Rattle.signature.specs.Signature.{bit_step, bit_steps, generator}

xor_four : (a b c d : ℕ) → bit_xor (bit_xor a b) (bit_xor c d) ≡ bit_xor (bit_xor a c) (bit_xor b d)
xor_four a b c d = cc (xor_assoc a b (bit_xor c d), xor_assoc b c d, xor_comm b c, xor_assoc c b d, xor_assoc a c (bit_xor b d))

xor_double : (a b : ℕ) → bit_xor a b * 2 ≡ bit_xor (a * 2) (b * 2)
xor_double a b = sym (simp add-zero at (xor_block 1 a b 0 0 (omega arith) (omega arith)))

-- the sum of two bits, each of which selects g or nothing
xor_bit_mul : (x y g : ℕ) → x < 2 → y < 2 → bit_xor x y * g ≡ bit_xor (x * g) (y * g)
xor_bit_mul zero y g hx hy = simp zero-mul
xor_bit_mul (suc zero) zero g hx hy = simp (zero-mul, xor_zero_r)
xor_bit_mul (suc zero) (suc zero) g hx hy = simp (zero-mul, xor_self)
xor_bit_mul (suc zero) (suc (suc y)) g hx hy = absurd (omega arith)
xor_bit_mul (suc (suc x)) y g hx hy = absurd (omega arith)

pub bit_step_xor : (a b : ℕ) → a < 2 ^ 32 → b < 2 ^ 32 → bit_step (bit_xor a b) ≡ bit_xor (bit_step a) (bit_step b)
unfolding bit_step
bit_step_xor a b ha hb =
    let added = xor_bit_mul (a / 2 ^ 31) (b / 2 ^ 31) generator (shr_below a 1 31 ha) (shr_below b 1 31 hb) in
    rw (xor_double, xor_mod (a * 2) (b * 2) 32, xor_shr a b 31, added)
    (xor_four (a * 2 % 2 ^ 32) (b * 2 % 2 ^ 32) (a / 2 ^ 31 * generator) (b / 2 ^ 31 * generator))

pub bit_step_lt : (a : ℕ) → a < 2 ^ 32 → bit_step a < 2 ^ 32
unfolding bit_step
bit_step_lt a h =
    let top = shr_below a 1 31 h in
    xor_lt 32 (a * 2 % 2 ^ 32) (a / 2 ^ 31 * generator) (omega arith) (omega arith)

bit_step_low : (a : ℕ) → a * 2 < 2 ^ 32 → bit_step a ≡ a * 2
unfolding bit_step
bit_step_low a h =
    let top : a / 2 ^ 31 ≡ 0 = omega arith in
    let low : a * 2 % 2 ^ 32 ≡ a * 2 = omega arith in
    rw (top, low) (xor_zero_r (a * 2))

pub bit_steps_xor : (n a b : ℕ) → a < 2 ^ 32 → b < 2 ^ 32 → bit_steps n (bit_xor a b) ≡ bit_xor (bit_steps n a) (bit_steps n b)
bit_steps_xor zero a b ha hb = refl
bit_steps_xor (suc n) a b ha hb =
    ap (bit_steps n) (bit_step_xor a b ha hb) ∙ bit_steps_xor n (bit_step a) (bit_step b) (bit_step_lt a ha) (bit_step_lt b hb)

pub bit_steps_lt : (n a : ℕ) → a < 2 ^ 32 → bit_steps n a < 2 ^ 32
bit_steps_lt zero a h = h
bit_steps_lt (suc n) a h = bit_steps_lt n (bit_step a) (bit_step_lt a h)

pub bit_steps_low : (n a : ℕ) → a * 2 ^ n < 2 ^ 32 → bit_steps n a ≡ a * 2 ^ n
bit_steps_low zero a h = omega arith
bit_steps_low (suc n) a h =
    let e : a * 2 ^ suc n ≡ a * 2 * 2 ^ n = simp (pow-succ', mul_assoc) in
    let less = le-mul_of_pos_right (a * 2) (pow_pos n) in
    ap (bit_steps n) (bit_step_low a (omega arith)) ∙ bit_steps_low n (a * 2) (omega arith) ∙ sym e
