-- What the code of each disturbance leaves is what its definition says.
use Rattle.std.proofs.Common.{◌≡◌, ℕ, ◌-◌, ◌<◌, ◌≤◌, true, false, List, ◌++◌, length, get_or, take, drop, set, Some, None, Ok, Option, sym, ap, ◌∙◌, arith, length-set}
use native.Mathlib.Nat.{sub-zero}
use lib.Bits.{bit_xor}
use Rattle.std.proofs.lemmas.List.{take_at, get_or_append_left, set-append_left}
use Rattle.carrier.specs.declared.lane.Lane.TheVariants.{Down}
use Rattle.carrier.proofs.Cells.{sends}
use Rattle.carrier.proofs.Fetches.{GotSome, fetched_some}
use Rattle.carrier.specs.Cells.{held, kept_after}
use Rattle.carrier.specs.Fetch.{Answer, Fetched, length_of, brought_in}
use Rattle.carrier.specs.Lanes.{Lanes}
use Rattle.carrier.specs.Place.{sendable}
use Rattle.message.specs.Sound.{sound}
use Rattle.disturber.specs.declared.Disturber.{Disturber}
use Rattle.disturber.specs.declared.disturbance.Disturbance.{Disturbance}
use Rattle.disturber.specs.declared.disturbance.Disturbance.TheVariants.{Pass, Flip}
use Rattle.disturber.specs.declared.script.Script.{Script}
use Rattle.disturber.specs.Disturbing.{kept_of, flipped, unless_sound, kept_sound, Acted, Disturbed}
use Rattle.disturber.specs.Scripts.{to_come, next_of}

-- a message is read where it was written
read_front : (m s t : List ℕ) (n : ℕ) → n ≡ length m → t ≡ m ++ drop (length m) s → take (n - 0) t ≡ m
read_front m s t n long e = rw (sub-zero, e) (take_at m (drop (length m) s) n (sym long))

-- the lowest bit of the octet before a place flipped
abbrev pub flip_before : ℕ → List ℕ → List ℕ
flip_before n t = set t (n - 1) (bit_xor (get_or t (n - 1) 0) 1)

-- a message is flipped where it was written
flip_front : (m s t : List ℕ) (n : ℕ) → 1 ≤ length m → n ≡ length m → t ≡ m ++ drop (length m) s
    → take (n - 0) (flip_before n t) ≡ flipped m
flip_front m s t n some long e =
    let last : length m - 1 < length m = omega arith in
    let rest = drop (length m) s in
    rw (sub-zero, e, long, get_or_append_left m rest 0 (length m - 1) last, set-append_left m rest (length m - 1) _ last)
    (take_at (flipped m) rest (length m) (length-set m (length m - 1) _))

-- a message came from below into a buffer
module _ {C : Type 0} (lanes : C → Lanes) (before after : Disturber C) (s t : List ℕ) (n : ℕ)
    (f : Fetched Down (lanes before.below) (lanes after.below) s t (Ok (Some n))) where
  so : GotSome Down (lanes before.below) (lanes after.below) s t n
  so = fetched_some Down (lanes before.below) (lanes after.below) s t n f

  read : take (n - 0) t ≡ so.message
  read = read_front so.message s t n so.long so.leaves

  passes : to_come after.script ≡ to_come before.script → kept_of after ≡ kept_sound (kept_of before) (Some (take (n - 0) t))
      → Acted lanes Pass before after s t (Some n)
  passes left kept = record {
    brought = Some so.message;
    asked = so.got;
    answers = ap (λ x. Ok (Some x)) so.long;
    leaves = so.leaves;
    keeps = kept ∙ ap (λ x. kept_sound (kept_of before) (Some x)) read;
    moves = left;
  }

  pub passes_sound : sound (take (n - 0) t) ≡ true → to_come after.script ≡ to_come before.script
      → kept_of after ≡ kept_after (kept_of before) (take (n - 0) t) → Acted lanes Pass before after s t (Some n)
  passes_sound ok left kept =
      passes left (kept ∙ rw (ok, ap sendable read ∙ sends so.message so.got.came.0 so.got.came.1))

  pub passes_unsound : sound (take (n - 0) t) ≡ false → after.script ≡ before.script → Acted lanes Pass before after s t (Some n)
  passes_unsound bad same = passes (ap to_come same) (rw (bad, same))

  flips : take (n - 0) (flip_before n t) ≡ flipped so.message
  flips = flip_front so.message s t n so.got.came.0 so.long so.leaves

  damages : after.script ≡ before.script → (buffer buffer' : List ℕ) (r : Option ℕ)
      → r ≡ length_of (unless_sound (take (n - 0) (flip_before n t)))
      → buffer' ≡ brought_in (unless_sound (take (n - 0) (flip_before n t))) buffer → Acted lanes Flip before after buffer buffer' r
  damages same buffer buffer' r answers leaves = record {
    brought = Some so.message;
    asked = so.got;
    answers = ap Ok (answers ∙ ap (λ x. length_of (unless_sound x)) flips);
    leaves = leaves ∙ ap (λ x. brought_in (unless_sound x) buffer) flips;
    keeps = ap (λ x. held x.kept) same;
    moves = ap to_come same;
  }

  pub flips_sound : after.script ≡ before.script → (buffer : List ℕ) → sound (take (n - 0) (flip_before n t)) ≡ true
      → Acted lanes Flip before after buffer buffer None
  flips_sound same buffer ok = damages same buffer buffer None (rw ok) (rw ok)

  pub flips_unsound : after.script ≡ before.script → (buffer w : List ℕ) → sound (take (n - 0) (flip_before n t)) ≡ false
      → w ≡ take (n - 0) (flip_before n t) → Acted lanes Flip before after buffer (w ++ drop (n - 0) buffer) (Some n)
  flips_unsound same buffer w bad copied =
      let long : length (take (n - 0) (flip_before n t)) ≡ n = ap length flips ∙ length-set so.message _ _ ∙ sym so.long in
      damages same buffer (w ++ drop (n - 0) buffer) (Some n) (rw (bad, long)) (rw (bad, long, copied, sub-zero))

-- the script moves on before the disturbance acts
module _ {C : Type 0} (lanes : C → Lanes) (before after : Disturber C) (s t : List ℕ) (r : Answer) where
  pub uses_one : (d : Disturbance) (advanced : Script) → d ≡ next_of (to_come before.script)
      → to_come advanced ≡ drop 1 (to_come before.script) → advanced.kept ≡ before.script.kept
      → Disturbed lanes d (to_come advanced) (record { below = before.below; script = advanced }) after s t r
      → Disturbed lanes (next_of (to_come before.script)) (drop 1 (to_come before.script)) before after s t r
  uses_one d advanced e moves kept p = record {
    brought = p.brought;
    asked = rw e at p.asked;
    answers = rw (e, kept) at p.answers;
    leaves = rw (e, kept) at p.leaves;
    keeps = rw (e, kept) at p.keeps;
    moves = p.moves ∙ moves;
  }
