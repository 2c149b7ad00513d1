-- What a cell holds is a message.
use Rattle.std.proofs.Common.{◌≡◌, ℕ, ◌≤◌, true, false, cond, eqb, leb, List, length, take, Some, None, Ok, Option, sym, refl, ap, ◌∙◌, arith, length-take}
use Rattle.std.proofs.lemmas.Bool.{le-leb, le-ltb, and_from, cond_both}
use Rattle.carrier.specs.declared.cell.Cell.{Cell}
use Rattle.carrier.specs.declared.lane.Lane.{Lane}
use Rattle.carrier.specs.Cells.{held, shown, shown_in, listed, published}
use Rattle.carrier.specs.Fetch.{Fetched, Brought, first_of, length_of, brought_in}
use Rattle.carrier.specs.Lanes.{Message, lane_of, with_lane}
use Rattle.carrier.specs.Place.{Placed, sendable}
use Rattle.message.specs.Response.{longest}
use Rattle.carrier.proofs.Steady.{Lengthy, steady_placed, steady_fetched}

pub sends : (m : Message) → 1 ≤ length m → length m ≤ longest → sendable m ≡ true
sends m a b = and_from (leb 1 (length m)) (leb (length m) longest) (le-leb 1 (length m) a) (le-leb (length m) longest b)

pub held_lengthy : (c : Cell) → Lengthy (held c)
held_lengthy c =
    let f = c.fits in
    let w = c.whole in
    cond_both (eqb c.size 0) None (Some (take c.size c.octets)) Lengthy (λ _. tt)
    (λ e. let some : 1 ≤ c.size = by_cases c.size e in (simp length-take (omega arith), simp length-take (omega arith)))
  where
    by_cases : (n : ℕ) → eqb n 0 ≡ false → 1 ≤ n
    by_cases n e = grind arith

first_listed : (b : Brought) → first_of (listed b) ≡ b
first_listed (Some m) = refl
first_listed None = refl

-- a publishing lane shows its cell
pub shows : (l : Lane) (up down c : Cell) (s t : List ℕ) (r : Option ℕ) → lane_of l (published up down) ≡ listed (held c)
    → longest ≤ length s → r ≡ length_of (shown (held c) s) → t ≡ shown_in (held c) s
    → Fetched l (published up down) (published up down) s t (Ok r)
shows l up down c s t r e long answers leaves =
    let first : first_of (lane_of l (published up down)) ≡ held c = ap first_of e ∙ first_listed (held c) in
    let room : shown (held c) s ≡ held c = ap (λ b. cond b None (held c)) (le-ltb (length s) longest long) in
    steady_fetched (published up down) l (published up down) s t r long (rw first (held_lengthy c)) refl
    (answers ∙ ap length_of (room ∙ sym first)) (leaves ∙ ap (λ b. brought_in b s) (room ∙ sym first))

-- and holds what was placed last
pub publishes : (l : Lane) (m : Message) (up down up' down' : Cell) (c : Cell) → sendable m ≡ true → held c ≡ Some m
    → published up' down' ≡ with_lane l (listed (held c)) (published up down)
    → Placed l m (published up down) (published up' down') (Ok tt)
publishes l m up down up' down' c ok e w =
    steady_placed l m (published up down) (published up' down') (Ok tt) ok
    (w ∙ ap (λ x. with_lane l (listed x) (published up down)) e) refl
