-- A register leaves octet by octet, and four octets enter it as one number.
use Rattle.std.proofs.Common.{◌≡◌, ℕ, zero, suc, ◌+◌, ◌*◌, ◌/◌, ◌%◌, ◌^◌, ◌<◌, ◌≤◌, List, [], ◌∷◌, ◌++◌, length, get_or, take, drop, reverse, fold, sym, refl, ap, ◌∙◌, mod-eq_of_lt, le-mul_of_pos_right, length-drop, arith}
use native.Mathlib.Nat.{mod-le}
use lib.Bits.{bit_xor, xor_assoc, xor_zero_r, xor_lt, xor_mod, xor_shr, xor_shifted}
use Rattle.std.proofs.lemmas.Nat.{mod_below, mod-pow-add, pow_pos, shl-shr, shr_below}
use Rattle.std.specs.Simd.{first_chunks}
use Rattle.std.proofs.lemmas.List.{at_drop_more, take-append-drop, reverse-append}
use Rattle.std.proofs.lemmas.List.Sums.{fold-append}
use Rattle.signature.specs.Signature.{bit_step, bit_steps, octet_step, entered}
use Rattle.signature.proofs.Register.{bit_steps_lt, bit_steps_xor, bit_steps_low}

-- after n bits the octet in x stands at the top
to_top : (n x o : ℕ) → o < 2 ^ 8 → x * 2 ^ n ≡ o * 2 ^ 24 → bit_steps n x ≡ o * 2 ^ 24
to_top n x o h e = bit_steps_low n x (omega arith) ∙ e

-- the octet at place k leaves apart from what stands below it, in m bits and n more
octet_apart : (m n k w : ℕ) → w < 2 ^ 32
    → bit_steps n (bit_steps m (w % 2 ^ (8 + k)))
    ≡ bit_xor (bit_steps n (bit_steps m (w / 2 ^ k % 2 ^ 8 * 2 ^ k))) (bit_steps n (bit_steps m (w % 2 ^ k)))
octet_apart m n k w h =
    let o : ℕ = w / 2 ^ k % 2 ^ 8 * 2 ^ k in
    let l : ℕ = w % 2 ^ k in
    let sum : w % 2 ^ (8 + k) ≡ o + l = mod-pow-add w 8 k in
    let less = mod-le w (2 ^ (8 + k)) in
    let ho : o < 2 ^ 32 = omega arith in
    let hl : l < 2 ^ 32 = omega arith in
    let both = xor_shifted (w / 2 ^ k % 2 ^ 8) k l (mod_below w (2 ^ k) (pow_pos k)) in
    let first = bit_steps_xor m o l ho hl in
    let then = bit_steps_xor n (bit_steps m o) (bit_steps m l) (bit_steps_lt m o ho) (bit_steps_lt m l hl) in
    cc

-- one octet more: the top octet leaves by its row, and the rest moves up
pub one_by_row : {x : ℕ} (r o : ℕ) → r < 2 ^ 32 → o < 2 ^ 8 → x ≡ bit_steps 8 (bit_xor (r / 2 ^ 24) o * 2 ^ 24)
    → bit_xor x (r * 2 ^ 8 % 2 ^ 32) ≡ octet_step r o
unfolding octet_step
one_by_row r o hr ho row =
    let v : ℕ = bit_xor r (o * 2 ^ 24) in
    let hv : v < 2 ^ 32 = xor_lt 32 r (o * 2 ^ 24) hr (omega arith) in
    let whole : v % 2 ^ 32 ≡ v = mod-eq_of_lt hv in
    let apart = octet_apart 8 0 24 v hv in
    let top : v / 2 ^ 24 % 2 ^ 8 ≡ bit_xor (r / 2 ^ 24) o =
    mod-eq_of_lt (shr_below v 8 24 hv) ∙ xor_shr r (o * 2 ^ 24) 24 ∙ ap (bit_xor (r / 2 ^ 24)) (shl-shr o 24) in
    let none : o * 2 ^ 24 % 2 ^ 24 ≡ 0 = omega arith in
    let low : v % 2 ^ 24 ≡ r % 2 ^ 24 = xor_mod r (o * 2 ^ 24) 24 ∙ ap (bit_xor (r % 2 ^ 24)) none ∙ xor_zero_r (r % 2 ^ 24) in
    let up = bit_steps_low 8 (r % 2 ^ 24) (omega arith) in
    let moved : r % 2 ^ 24 * 2 ^ 8 ≡ r * 2 ^ 8 % 2 ^ 32 = omega arith in
    cc

-- m bits leave, and then n
then_leave : (m n k x : ℕ) → m + n ≡ k → bit_steps k x ≡ bit_steps n (bit_steps m x)
then_leave zero n k x e =
    let n_is_k : k ≡ n = omega arith in
    ap (λ i. bit_steps i x) n_is_k
then_leave (suc m) n zero x e = absurd (omega arith)
then_leave (suc m) n (suc k) x e = then_leave m n k (bit_step x) (omega arith)

-- the four octets of a register leave, each by its row, in 32 bits and n more
pub four_by_rows : {x3 x2 x1 x0 : ℕ} (n w : ℕ) (os : List ℕ) → w < 2 ^ 32
    → os ≡ w % 2 ^ 8 ∷ w / 2 ^ 8 % 2 ^ 8 ∷ w / 2 ^ 16 % 2 ^ 8 ∷ w / 2 ^ 24 % 2 ^ 8 ∷ []
    → x3 ≡ bit_steps n (bit_steps 32 (get_or os 3 0 * 2 ^ 24)) → x2 ≡ bit_steps n (bit_steps 24 (get_or os 2 0 * 2 ^ 24))
    → x1 ≡ bit_steps n (bit_steps 16 (get_or os 1 0 * 2 ^ 24)) → x0 ≡ bit_steps n (bit_steps 8 (get_or os 0 0 * 2 ^ 24))
    → bit_xor x3 (bit_xor x2 (bit_xor x1 x0)) ≡ bit_steps n (bit_steps 32 w)
four_by_rows n w os h e r3 r2 r1 r0 =
    let whole : w % 2 ^ 32 ≡ w = mod-eq_of_lt h in
    let s3 = octet_apart 32 n 24 w h in
    let s2 = octet_apart 32 n 16 w h in
    let s1 = octet_apart 32 n 8 w h in
    let t2 = to_top 8 (w / 2 ^ 16 % 2 ^ 8 * 2 ^ 16) (w / 2 ^ 16 % 2 ^ 8) (omega arith) (omega arith) in
    let t1 = to_top 16 (w / 2 ^ 8 % 2 ^ 8 * 2 ^ 8) (w / 2 ^ 8 % 2 ^ 8) (omega arith) (omega arith) in
    let t0 = to_top 24 (w % 2 ^ 8) (w % 2 ^ 8) (omega arith) (omega arith) in
    cc

-- the same by the rows of four tables that lie one behind the other, from table t on
pub four_by_tables : {x3 x2 x1 x0 : ℕ} (t w : ℕ) (os : List ℕ) → w < 2 ^ 32
    → os ≡ w % 2 ^ 8 ∷ w / 2 ^ 8 % 2 ^ 8 ∷ w / 2 ^ 16 % 2 ^ 8 ∷ w / 2 ^ 24 % 2 ^ 8 ∷ []
    → x3 ≡ bit_steps (8 * (t + 3 + 1)) (get_or os 3 0 * 2 ^ 24) → x2 ≡ bit_steps (8 * (t + 2 + 1)) (get_or os 2 0 * 2 ^ 24)
    → x1 ≡ bit_steps (8 * (t + 1 + 1)) (get_or os 1 0 * 2 ^ 24) → x0 ≡ bit_steps (8 * (t + 1)) (get_or os 0 0 * 2 ^ 24)
    → bit_xor x3 (bit_xor x2 (bit_xor x1 x0)) ≡ bit_steps (8 * (t + 4)) w
four_by_tables t w os h e r3 r2 r1 r0 =
    let n : ℕ = 8 * t in
    let n3 = then_leave 32 n (8 * (t + 3 + 1)) (get_or os 3 0 * 2 ^ 24) (omega arith) in
    let n2 = then_leave 24 n (8 * (t + 2 + 1)) (get_or os 2 0 * 2 ^ 24) (omega arith) in
    let n1 = then_leave 16 n (8 * (t + 1 + 1)) (get_or os 1 0 * 2 ^ 24) (omega arith) in
    let n0 = then_leave 8 n (8 * (t + 1)) (get_or os 0 0 * 2 ^ 24) (omega arith) in
    four_by_rows n w os h e (r3 ∙ n3) (r2 ∙ n2) (r1 ∙ n1) (r0 ∙ n0) ∙ sym (then_leave 32 n (8 * (t + 4)) w (omega arith))

-- an octet that enters after n bits may enter before them, n places lower
enter : (n r x o : ℕ) → r < 2 ^ 32 → o < 2 ^ 8 → x * 2 ^ n ≡ o * 2 ^ 24
    → octet_step (bit_steps n r) o ≡ bit_steps 8 (bit_steps n (bit_xor r x))
unfolding octet_step
enter n r x o hr ho e =
    let less = le-mul_of_pos_right x (pow_pos n) in
    let sum = bit_steps_xor n r x hr (omega arith) in
    let top = to_top n x o ho e in
    cc

-- four octets, of which the first becomes the highest
four_octets : (r a b c d : ℕ) → r < 2 ^ 32 → a < 2 ^ 8 → b < 2 ^ 8 → c < 2 ^ 8 → d < 2 ^ 8
    → octet_step (octet_step (octet_step (octet_step r a) b) c) d ≡ bit_steps 32 (bit_xor r (d + c * 2 ^ 8 + b * 2 ^ 16 + a * 2 ^ 24))
four_octets r a b c d hr ha hb hc hd =
    let ra : ℕ = bit_xor r (a * 2 ^ 24) in
    let rb : ℕ = bit_xor ra (b * 2 ^ 16) in
    let rc : ℕ = bit_xor rb (c * 2 ^ 8) in
    let la : ra < 2 ^ 32 = xor_lt 32 r (a * 2 ^ 24) hr (omega arith) in
    let lb : rb < 2 ^ 32 = xor_lt 32 ra (b * 2 ^ 16) la (omega arith) in
    let lc : rc < 2 ^ 32 = xor_lt 32 rb (c * 2 ^ 8) lb (omega arith) in
    let ea = enter 0 r (a * 2 ^ 24) a hr ha (omega arith) in
    let eb = enter 8 ra (b * 2 ^ 16) b la hb (omega arith) in
    let ec = enter 16 rb (c * 2 ^ 8) c lb hc (omega arith) in
    let ed = enter 24 rc d d lc hd (omega arith) in
    let wc = xor_shifted c 8 d hd in
    let wb = xor_shifted b 16 (c * 2 ^ 8 + d) (omega arith) in
    let wa = xor_shifted a 24 (b * 2 ^ 16 + (c * 2 ^ 8 + d)) (omega arith) in
    let sum : a * 2 ^ 24 + (b * 2 ^ 16 + (c * 2 ^ 8 + d)) ≡ d + c * 2 ^ 8 + b * 2 ^ 16 + a * 2 ^ 24 = omega arith in
    let word : bit_xor rc d ≡ bit_xor r (d + c * 2 ^ 8 + b * 2 ^ 16 + a * 2 ^ 24) = simp xor_assoc (cc) in
    cc

-- one octet further down
one_down : {q : ℕ} (r : ℕ) (xs : List ℕ) (i j : ℕ) → i + 1 ≡ j → j ≤ length xs
    → q ≡ entered r (drop j xs) → octet_step q (get_or xs i 0) ≡ entered r (drop i xs)
one_down r xs i j e h from = cc (at_drop_more (entered r) xs i 0 (omega arith))

-- four octets further down, as one number
pub four_down : {q w : ℕ} (r : ℕ) (xs : List ℕ) (i j k l m : ℕ) → i + 1 ≡ j → j + 1 ≡ k → k + 1 ≡ l → l + 1 ≡ m → m ≤ length xs
    → ((n : ℕ) → get_or xs n 0 < 2 ^ 8) → q < 2 ^ 32 → q ≡ entered r (drop m xs)
    → w ≡ get_or xs i 0 + get_or xs j 0 * 2 ^ 8 + get_or xs k 0 * 2 ^ 16 + get_or xs l 0 * 2 ^ 24
    → bit_steps 32 (bit_xor q w) ≡ entered r (drop i xs)
four_down {q} r xs i j k l m ej ek el em h small hq from word =
    let d3 = one_down r xs l m em h from in
    let d2 = one_down r xs k l el (omega arith) d3 in
    let d1 = one_down r xs j k ek (omega arith) d2 in
    let d0 = one_down r xs i j ej (omega arith) d1 in
    let all = four_octets q (get_or xs l 0) (get_or xs k 0) (get_or xs j 0) (get_or xs i 0) hq (small l) (small k) (small j) (small i) in
    ap (λ x. bit_steps 32 (bit_xor q x)) word ∙ sym all ∙ d0

-- the last octets enter, and then those before them
entered_append : (r : ℕ) (xs ys : List ℕ) → entered (entered r ys) xs ≡ entered r (xs ++ ys)
entered_append r [] ys = refl
entered_append r (x ∷ xs) ys = ap (λ q. octet_step q x) (entered_append r xs ys)

pub entered_split : (r n : ℕ) (xs : List ℕ) → entered (entered r (drop n xs)) (take n xs) ≡ entered r xs
entered_split r n xs = entered_append r (take n xs) (drop n xs) ∙ ap (entered r) (take-append-drop n xs)

-- a step for each item, from the last one on
fold_back : {A : Type 0} (f : ℕ → A → ℕ) (r : ℕ) (x : A) (xs : List A)
    → fold f r (reverse (x ∷ xs)) ≡ f (fold f r (reverse xs)) x
fold_back f r x xs = ap (fold f r) (reverse-append (x ∷ []) xs) ∙ fold-append f r (reverse xs) (x ∷ [])

pub one_by_one : (r : ℕ) (xs : List ℕ) → fold octet_step r (reverse xs) ≡ entered r xs
one_by_one r [] = refl
one_by_one r (x ∷ xs) = fold_back octet_step r x xs ∙ ap (λ q. octet_step q x) (one_by_one r xs)

pub chunk_by_chunk : (r n k : ℕ) (xs : List ℕ) → length xs ≡ k * n
    → fold (λ q os. entered q os) r (reverse (first_chunks n k xs)) ≡ entered r xs
chunk_by_chunk r n zero [] e = refl
chunk_by_chunk r n zero (x ∷ xs) e = absurd (omega arith)
chunk_by_chunk r n (suc k) xs e =
    fold_back (λ q os. entered q os) r (take n xs) (first_chunks n k (drop n xs))
    ∙ ap (λ q. entered q (take n xs)) (chunk_by_chunk r n k (drop n xs) (omega (arith, length-drop n xs)))
    ∙ entered_split r n xs
