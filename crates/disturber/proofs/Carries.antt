-- A down fetch keeps the laws of every carrier, whichever disturbance it meets.
use Rattle.std.proofs.Common.{◌≡◌, ℕ, ◌≤◌, ltb, List, ◌++◌, length, take, drop, Some, None, sym, refl, ap, ◌∙◌, inl, inr, ⊎_elim, append_assoc, arith, length-set, length-take}
use mathlib.Core.List.Memᴰ
use borrow.Author.Tests.{both_ways}
use Rattle.std.proofs.lemmas.Bool.{cond_both, le-ltb}
use Rattle.std.proofs.lemmas.List.{take-append-drop, drop-append-le}
use Rattle.carrier.specs.declared.lane.Lane.{Lane}
use Rattle.carrier.specs.declared.lane.Lane.TheVariants.{Down}
use Rattle.carrier.proofs.Cells.{held_lengthy}
use Rattle.carrier.proofs.Steady.{Lengthy}
use Rattle.carrier.specs.Cells.{listed}
use Rattle.carrier.specs.Fetch.{Answer, Brought, brought_in, Came, Fetched, Got}
use Rattle.carrier.specs.Lanes.{Lanes, NoGain}
use Rattle.message.specs.Response.{longest}
use Rattle.message.specs.Sound.{sound}
use Rattle.disturber.specs.declared.Disturber.{Disturber}
use Rattle.disturber.specs.declared.disturbance.Disturbance.{Disturbance}
use Rattle.disturber.specs.declared.disturbance.Disturbance.TheVariants.{Pass, Lose, Repeat, Flip}
use Rattle.disturber.specs.Disturbing.{disturbed, kept_of, lanes_over, flipped, damaged, kept_sound, handed, Disturbed}
use Rattle.disturber.proofs.Layers.{got_over, stays}

module _ (k : Brought) (a : Lanes) where
  came_passed : (brought : Brought) → Came Down a brought → Came Down (disturbed k a) brought
  came_passed (Some m) c = (c.0, c.1, ⊎_elim (λ h. inl (Memᴰ.append_right (listed k) h)) inr c.2)
  came_passed None c = tt

  came_damaged : (brought : Brought) → Came Down a brought → Came Down (disturbed k a) (damaged brought)
  came_damaged (Some m) c =
      cond_both (sound (flipped m)) None (Some (flipped m)) (λ x. Came Down (disturbed k a) x) (λ _. tt)
      (λ e. (rw length-set c.0, rw length-set c.1, inr e))
  came_damaged None c = tt

  -- a sound message was held below, so that keeping it gains nothing
  keeps_held : (brought : Brought) → Came Down a brought → NoGain (listed k ++ a.down) (listed (kept_sound k brought))
  keeps_held (Some m) c =
      cond_both (sound m) (Some m) k (λ x. NoGain (listed k ++ a.down) (listed x))
      (λ e x h. ⊎_elim (λ i. Memᴰ.cast (Memᴰ.eq_of_singleton h) (Memᴰ.append_right (listed k) i))
      (λ u. absurd (both_ways (sound m) u e)) c.2)
      (λ _. stays k a.down)
  keeps_held None c = stays k a.down

came_lengthy : (l : Lane) (a : Lanes) (b : Brought) → Came l a b → Lengthy b
came_lengthy l a (Some m) c = (c.0, c.1)
came_lengthy l a None c = tt

-- what is brought to the start of a buffer stands there before the rest
in_front : (b : Brought) (s t : List ℕ) → longest ≤ length s → Lengthy b → t ≡ brought_in b (take longest s)
    → t ++ drop longest s ≡ brought_in b s
in_front (Some m) s t long h e =
    let xs = take longest s in
    let ys = drop longest s in
    let room : length m ≤ length xs = simp length-take (omega (arith, h.1)) in
    ap (λ x. x ++ ys) e ∙ append_assoc m (drop (length m) xs) ys
    ∙ ap (λ x. m ++ x) (sym (drop-append-le (length m) xs ys room) ∙ ap (drop (length m)) (take-append-drop longest s))
in_front None s t long h e = ap (λ x. x ++ drop longest s) e ∙ take-append-drop longest s

came_kept : (k : Brought) (a : Lanes) → Lengthy k → Came Down (disturbed k a) k
came_kept (Some m) a h = (h.0, h.1, inl (Memᴰ.head refl))
came_kept None a h = tt

module _ {C : Type 0} (lanes : C → Lanes) (before after : Disturber C) (left : List Disturbance) (s t : List ℕ) (r : Answer) where
  got_by : (d : Disturbance) (p : Disturbed lanes d left before after s t r)
      → Got Down (lanes_over lanes before) (lanes_over lanes after) (handed d (kept_of before) p.brought)
  got_by Pass p =
      let k = kept_of before in let a = lanes before.below in let g = p.asked in
      rw p.keeps
      (got_over Down k (kept_sound k p.brought) a (lanes after.below) p.brought (came_passed k a p.brought g.came)
      (keeps_held k a p.brought g.came) g.up g.down g.fixed)
  got_by Lose p =
      let k = kept_of before in let a = lanes before.below in let g = p.asked in
      rw p.keeps (got_over Down k k a (lanes after.below) None tt (stays k a.down) g.up g.down g.fixed)
  got_by Repeat p =
      let k = kept_of before in let a = lanes before.below in
      rw (p.keeps, p.asked.0)
      (got_over Down k k a a k (came_kept k a (held_lengthy before.script.kept)) (stays k a.down) (λ m h. h) (λ m h. h)
      (record { steady = refl; standing = refl; up_slots = refl; down_slots = refl }))
  got_by Flip p =
      let k = kept_of before in let a = lanes before.below in let g = p.asked in
      rw p.keeps
      (got_over Down k k a (lanes after.below) (damaged p.brought) (came_damaged k a p.brought g.came)
      (stays k a.down) g.up g.down g.fixed)

  pub carries : (d : Disturbance) → longest ≤ length s → Disturbed lanes d left before after s t r
      → Fetched Down (lanes_over lanes before) (lanes_over lanes after) s t r
  carries d long p = record {
    refused = λ short. absurd (both_ways (ltb (length s) longest) (le-ltb (length s) longest long) short);
    fetched = λ _. (handed d (kept_of before) p.brought, record { got = got_by d p; answers = p.answers; leaves = p.leaves });
  }

  -- what is done to the first 1,525 octets is done to the whole buffer
  pub widens : (whole : List ℕ) (d : Disturbance) → longest ≤ length whole → s ≡ take longest whole
      → Disturbed lanes d left before after s t r → Disturbed lanes d left before after whole (t ++ drop longest whole) r
  widens whole d long first p =
      let h = handed d (kept_of before) p.brought in
      record {
        brought = p.brought;
        asked = p.asked;
        answers = p.answers;
        leaves = in_front h whole t long (came_lengthy Down (lanes_over lanes before) h (got_by d p).came)
            (p.leaves ∙ ap (brought_in h) first);
        keeps = p.keeps;
        moves = p.moves;
      }
