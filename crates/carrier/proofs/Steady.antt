-- What a steady carrier does keeps the laws of every carrier.
use Rattle.std.proofs.Common.{◌≡◌, ℕ, ◌≤◌, Bool, true, false, cond, eqb, ltb, ◌⊎◌, List, [], ◌∷◌, ◌++◌, length, Ok, Err, Option, sym, refl, ap, subst, inl, inr, ⊎_elim}
use mathlib.Core.List.Memᴰ
use mathlib.Core.List.{Memᴰ}
use borrow.Author.Tests.{both_ways}
use Rattle.std.proofs.lemmas.Bool.{le-ltb}
use Rattle.carrier.specs.declared.lane.Lane.{Lane}
use Rattle.carrier.specs.declared.lane.Lane.TheVariants.{Up, Down}
use Rattle.carrier.specs.declared.lane.PlaceRefusal.TheVariants.{Full}
use Rattle.carrier.specs.Fetch.{Fetched, Got, Came, Brought, length_of, brought_in, first_of, rest_of, steady_fetch}
use Rattle.carrier.specs.Lanes.{Message, Lanes, lane_of, slots_of, other, with_lane, NoGain, Fixed}
use Rattle.carrier.specs.Place.{Placed, Answer, sendable, steady_place, steady_answer}
use Rattle.message.specs.Response.{longest}

lane_with : (l : Lane) (ms : List Message) (a : Lanes) → lane_of l (with_lane l ms a) ≡ ms
lane_with Up ms a = refl
lane_with Down ms a = refl

other_with : (l : Lane) (ms : List Message) (a : Lanes) → NoGain (lane_of (other l) a) (lane_of (other l) (with_lane l ms a))
other_with Up ms a m h = h
other_with Down ms a m h = h

same_fixed : (a : Lanes) → Fixed a a
same_fixed a = record { steady = refl; standing = refl; up_slots = refl; down_slots = refl }

fixed_with : (l : Lane) (ms : List Message) (a : Lanes) → Fixed a (with_lane l ms a)
fixed_with Up ms a = record { steady = refl; standing = refl; up_slots = refl; down_slots = refl }
fixed_with Down ms a = record { steady = refl; standing = refl; up_slots = refl; down_slots = refl }

-- the two tests that decide a steady place: does it stand, and is it full?
module _ (l : Lane) (m : Message) (a : Lanes) where
  abbrev place_by : Bool → Bool → Lanes
  place_by z f = cond z (with_lane l (m ∷ []) a) (cond (cond z false f) a (with_lane l (lane_of l a ++ m ∷ []) a))

  abbrev answer_by : Bool → Bool → Answer
  answer_by z f = cond (cond z false f) (Err Full) (Ok tt)

  answers_by : (z f : Bool) → (answer_by z f ≡ Ok tt) ⊎ (answer_by z f ≡ Err Full)
  answers_by true f = inl refl
  answers_by false true = inr refl
  answers_by false false = inl refl

  lane_by : (z f : Bool) (x : Message) → Memᴰ x (lane_of l (place_by z f))
      → Memᴰ x (lane_of l a) ⊎ ((answer_by z f ≡ Ok tt) × (x ≡ m))
  lane_by true f x h = inr (refl, Memᴰ.eq_of_singleton (subst (λ ys. Memᴰ x ys) (lane_with l (m ∷ []) a) h))
  lane_by false true x h = inl h
  lane_by false false x h =
      let at = subst (λ ys. Memᴰ x ys) (lane_with l (lane_of l a ++ m ∷ []) a) h in
      ⊎_elim inl (λ i. inr (refl, Memᴰ.eq_of_singleton i)) (Memᴰ.append_cases (lane_of l a) at)

  others_by : (z f : Bool) → NoGain (lane_of (other l) a) (lane_of (other l) (place_by z f))
  others_by true f = other_with l (m ∷ []) a
  others_by false true = λ x h. h
  others_by false false = other_with l (lane_of l a ++ m ∷ []) a

  fixed_by : (z f : Bool) → Fixed a (place_by z f)
  fixed_by true f = fixed_with l (m ∷ []) a
  fixed_by false true = same_fixed a
  fixed_by false false = fixed_with l (lane_of l a ++ m ∷ []) a

  pub steady_placed : (b : Lanes) (r : Answer) → sendable m ≡ true → b ≡ steady_place l m a → r ≡ steady_answer l a → Placed l m a b r
  steady_placed b r ok e f =
      let z = a.standing in
      let n = eqb (length (lane_of l a)) (slots_of l a) in
      rw (e, f) (record {
        refused = λ bad. absurd (both_ways (sendable m) bad ok);
        put = λ _. record {
          answers = answers_by z n;
          this_lane = lane_by z n;
          other_lane = others_by z n;
          fixed = fixed_by z n;
          when_steady = λ _. (refl, refl);
        };
      })

-- a message that a steady fetch may bring
abbrev pub Lengthy : Brought → Type 0
Lengthy (Option.Some m) = (1 ≤ length m) × (length m ≤ longest)
Lengthy Option.None = Unit

first_came : (l : Lane) (a : Lanes) (ms : List Message) → lane_of l a ≡ ms → Lengthy (first_of ms) → Came l a (first_of ms)
first_came l a [] e h = tt
first_came l a (m ∷ ms) e h = (h.0, h.1, inl (subst (λ ys. Memᴰ m ys) (sym e) (Memᴰ.head refl)))

rest_gains : (ms : List Message) → NoGain ms (rest_of ms)
rest_gains [] m h = h
rest_gains (x ∷ ms) m h = Memᴰ.tail h

module _ (a : Lanes) where
  abbrev fetch_by : Lane → Bool → Lanes
  fetch_by l z = cond z a (with_lane l (rest_of (lane_of l a)) a)

  up_by : (l : Lane) (z : Bool) → NoGain a.up (fetch_by l z).up
  up_by l true m h = h
  up_by Up false m h = rest_gains a.up m h
  up_by Down false m h = h

  down_by : (l : Lane) (z : Bool) → NoGain a.down (fetch_by l z).down
  down_by l true m h = h
  down_by Up false m h = h
  down_by Down false m h = rest_gains a.down m h

  fixed_fetch : (l : Lane) (z : Bool) → Fixed a (fetch_by l z)
  fixed_fetch l true = same_fixed a
  fixed_fetch l false = fixed_with l (rest_of (lane_of l a)) a

  pub steady_got : (l : Lane) (b : Lanes) → Lengthy (first_of (lane_of l a)) → b ≡ steady_fetch l a → Got l a b (first_of (lane_of l a))
  steady_got l b h e = rw e (record {
    came = first_came l a (lane_of l a) refl h;
    up = up_by l a.standing;
    down = down_by l a.standing;
    fixed = fixed_fetch l a.standing;
    when_steady = λ _. (refl, refl);
  })

  pub steady_fetched : (l : Lane) (b : Lanes) (s t : List ℕ) (r : Option ℕ) → longest ≤ length s → Lengthy (first_of (lane_of l a))
      → b ≡ steady_fetch l a → r ≡ length_of (first_of (lane_of l a)) → t ≡ brought_in (first_of (lane_of l a)) s → Fetched l a b s t (Ok r)
  steady_fetched l b s t r long h e answers leaves = record {
    refused = λ short. absurd (both_ways (ltb (length s) longest) (le-ltb (length s) longest long) short);
    fetched = λ _. (first_of (lane_of l a), record { got = steady_got l b h e; answers = ap Ok answers; leaves = leaves });
  }
