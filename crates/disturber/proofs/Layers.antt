-- What holds of the carrier below holds of a disturber over it.
use Rattle.std.proofs.Common.{◌≡◌, ℕ, false, ◌⊎◌, List, ◌++◌, Some, None, Ok, refl, ap, inl, inr, ⊎_elim}
use mathlib.Core.List.Memᴰ
use mathlib.Core.List.{Memᴰ}
use borrow.Author.Tests.{both_ways}
use Rattle.carrier.specs.declared.lane.Lane.{Lane}
use Rattle.carrier.specs.declared.lane.Lane.TheVariants.{Up, Down}
use Rattle.carrier.specs.Cells.{listed}
use Rattle.carrier.specs.Fetch.{Answer, Brought, Came, Fetched, Got}
use Rattle.carrier.specs.Lanes.{Message, Lanes, lane_of, other, NoGain, Fixed}
use Rattle.carrier.specs.Place.{Placed, Answer as PlaceAnswer}
use Rattle.disturber.specs.Disturbing.{disturbed}

-- the down lane gains nothing where neither the kept message nor the lane below does
gains_none : (k k' : Brought) (xs ys : List Message) → NoGain (listed k ++ xs) (listed k') → NoGain xs ys
    → NoGain (listed k ++ xs) (listed k' ++ ys)
gains_none k k' xs ys kept f m h =
    ⊎_elim (kept m) (λ i. Memᴰ.append_right (listed k) (f m i)) (Memᴰ.append_cases (listed k') h)

pub stays : (k : Brought) (xs : List Message) → NoGain (listed k ++ xs) (listed k)
stays k xs m h = Memᴰ.append_left xs h

fixed_over : (k k' : Brought) (a b : Lanes) → Fixed a b → Fixed (disturbed k a) (disturbed k' b)
fixed_over k k' a b f = record { steady = refl; standing = refl; up_slots = f.up_slots; down_slots = f.down_slots }

pub got_over : (l : Lane) (k k' : Brought) (a b : Lanes) (out : Brought) → Came l (disturbed k a) out
    → NoGain (listed k ++ a.down) (listed k') → NoGain a.up b.up → NoGain a.down b.down → Fixed a b
    → Got l (disturbed k a) (disturbed k' b) out
got_over l k k' a b out came kept up down fixed = record {
  came = came;
  up = up;
  down = gains_none k k' a.down b.down kept down;
  fixed = fixed_over k k' a b fixed;
  when_steady = λ no. absurd (both_ways false refl no);
}

module _ (k : Brought) (a b : Lanes) where
  came_up : (brought : Brought) → Came Up a brought → Came Up (disturbed k a) brought
  came_up (Some m) c = c
  came_up None c = c

  pub up_fetched : (s t : List ℕ) (r : Answer) → Fetched Up a b s t r → Fetched Up (disturbed k a) (disturbed k b) s t r
  up_fetched s t r f = record {
    refused = λ e. ((f.refused e).0, ap (disturbed k) (f.refused e).1, (f.refused e).2);
    fetched = λ e. let so = f.fetched e in let g = so.1.got in (
      so.0,
      record {
        got = got_over Up k k a b so.0 (came_up so.0 g.came) (stays k a.down) g.up g.down g.fixed;
        answers = so.1.answers;
        leaves = so.1.leaves;
      },
    );
  }

  other_lane : (l : Lane) → NoGain (lane_of l a) (lane_of l b) → NoGain (lane_of l (disturbed k a)) (lane_of l (disturbed k b))
  other_lane Up f = f
  other_lane Down f = gains_none k k a.down b.down (stays k a.down) f

  this_lane : (l : Lane) (Q : Message → Type 0) → ((m : Message) → Memᴰ m (lane_of l b) → Memᴰ m (lane_of l a) ⊎ Q m)
      → (m : Message) → Memᴰ m (lane_of l (disturbed k b)) → Memᴰ m (lane_of l (disturbed k a)) ⊎ Q m
  this_lane Up Q f m h = f m h
  this_lane Down Q f m h =
      ⊎_elim (λ i. inl (Memᴰ.append_left a.down i)) (λ i. ⊎_elim (λ j. inl (Memᴰ.append_right (listed k) j)) inr (f m i))
      (Memᴰ.append_cases (listed k) h)

  pub placed_over : (l : Lane) (m : Message) (r : PlaceAnswer) → Placed l m a b r → Placed l m (disturbed k a) (disturbed k b) r
  placed_over l m r p = record {
    refused = λ e. ((p.refused e).0, ap (disturbed k) (p.refused e).1);
    put = λ e. let q = p.put e in record {
      answers = q.answers;
      this_lane = this_lane l (λ x. (r ≡ Ok tt) × (x ≡ m)) q.this_lane;
      other_lane = other_lane (other l) q.other_lane;
      fixed = fixed_over k k a b q.fixed;
      when_steady = λ no. absurd (both_ways false refl no);
    };
  }
