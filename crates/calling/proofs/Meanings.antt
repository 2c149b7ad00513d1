-- What the lanes do to their memories is what the carrier's meaning asks.
use Rattle.std.proofs.Common.{◌≡◌, ℕ, ◌≤◌, max, Bool, true, false, cond, ◌&&◌, eqb, ltb, List, [], ◌∷◌, ◌++◌, length, Ok, Err, Option, sym, refl, ap, ◌∙◌, subst, arith}
use Rattle.std.specs.List.{AllByRecursion}
use Rattle.std.proofs.lemmas.Bool.{and_parts, ltb-true}
use Rattle.calling.specs.Chains.{Sized, Stored, held, no_slots}
use Rattle.calling.specs.Lane.{Appends, Takes, crowded}
use Rattle.calling.specs.Meaning.{both_whole, lanes_of, made_over, means}
use Rattle.calling.proofs.Formats.{unused}
use Rattle.carrier.specs.declared.lane.Lane.{Lane}
use Rattle.carrier.specs.declared.lane.Lane.TheVariants.{Up, Down}
use Rattle.carrier.specs.declared.lane.PlaceRefusal.TheVariants.{Full}
use Rattle.carrier.specs.Fetch.{Fetched, brought_in, first_of, length_of, rest_of}
use Rattle.carrier.specs.Lanes.{Lanes, Message, lane_of, with_lane}
use Rattle.carrier.specs.Place.{Answer, Placed, full, steady_place}
use Rattle.carrier.proofs.Cells.{sends}
use Rattle.carrier.proofs.Steady.{Lengthy, steady_placed, steady_fetched}
use Rattle.message.specs.Response.{longest}

-- over two memories that are not both whole slots
pub closed : (u d : Stored) (o p : List ℕ) → u ≡ record { octets = o; heads = no_slots } → d ≡ record { octets = p; heads = no_slots }
    → both_whole o p ≡ false → means u d ≡ made_over o p
closed u d o p e f bad = rw (e, f, (unused o).1, (unused p).1, bad)

-- the memory of a lane, and the meaning after that one changed
abbrev own : Lane → Stored → Stored → Stored
own Up u d = u
own Down u d = d

abbrev after : Lane → Stored → Stored → Stored → Lanes
after Up u d w = means w d
after Down u d w = means u w

changes : (l : Lane) (u d w : Stored) → w.heads.slots ≡ (own l u d).heads.slots → after l u d w ≡ with_lane l (held w) (means u d)
changes Up u d w e = ap (λ n. lanes_of (held w) n (held d) d.heads.slots) e
changes Down u d w e = ap (lanes_of (held u) u.heads.slots (held w)) e

holds : (l : Lane) (u d : Stored) → lane_of l (means u d) ≡ held (own l u d)
holds Up u d = refl
holds Down u d = refl

stands : (l : Lane) (a : Lanes) → with_lane l (lane_of l a) a ≡ a
stands Up a = refl
stands Down a = refl

-- a steady carrier counts the slots of each lane
counts : (n k : ℕ) → true ≡ (ltb 0 n && ltb 0 k) → (max 1 n ≡ n) × (max 1 k ≡ k)
counts n k e =
    let p = and_parts (ltb 0 n) (ltb 0 k) (sym e) in
    (omega (arith, ltb-true 0 n p.0), omega (arith, ltb-true 0 k p.1))

fills : (l : Lane) (u d : Stored) → true ≡ (means u d).steady → full l (means u d) ≡ crowded (own l u d)
fills Up u d e = ap (eqb (length (held u))) (counts u.heads.slots d.heads.slots e).0
fills Down u d e = ap (eqb (length (held d))) (counts u.heads.slots d.heads.slots e).1

puts : (l : Lane) (u d : Stored) (m : Message) (f : Bool) → full l (means u d) ≡ f
    → let a = means u d in with_lane l (cond f (lane_of l a) (lane_of l a ++ m ∷ [])) a ≡ steady_place l m a
puts l u d m true e =
    let a = means u d in stands l a ∙ ap (λ z. cond z a (with_lane l (lane_of l a ++ m ∷ []) a)) (sym e)
puts l u d m false e = let a = means u d in ap (λ z. cond z a (with_lane l (lane_of l a ++ m ∷ []) a)) (sym e)

pub places : (l : Lane) (u d w : Stored) (m : Message) (r : Answer) → Sized m → true ≡ (means u d).steady → Appends (own l u d) w m r
    → Placed l m (means u d) (after l u d w) r
places l u d w m r z steady p =
    let a = means u d in
    let s = own l u d in
    let f = fills l u d steady in
    steady_placed l m a (after l u d w) r (sends m z.0 z.1)
    (changes l u d w p.slots
    ∙ (ap (λ ms. with_lane l ms a) (p.holds ∙ ap (λ ms. cond (crowded s) ms (ms ++ m ∷ [])) (sym (holds l u d)))
    ∙ puts l u d m (crowded s) f))
    (p.answers ∙ ap (λ x. cond x (Err Full) (Ok tt)) (sym f))

first_lengthy : (ms : List Message) → AllByRecursion Sized ms → Lengthy (first_of ms)
first_lengthy [] h = tt
first_lengthy (m ∷ ms) h = h.0

pub brings : (l : Lane) (u d w : Stored) (s t : List ℕ) (r : Option ℕ) → longest ≤ length s → Takes (own l u d) w s t r → Fetched l (means u d) (after l u d w) s t (Ok r)
brings l u d w s t r long p =
    let a = means u d in
    let o = own l u d in
    let e = sym (holds l u d) in
    steady_fetched a l (after l u d w) s t r long
    (subst (λ ms. Lengthy (first_of ms)) e (first_lengthy (held o) p.sized))
    (changes l u d w p.slots ∙ ap (λ ms. with_lane l ms a) (p.holds ∙ ap rest_of e))
    (p.answers ∙ ap (λ ms. length_of (first_of ms)) e)
    (p.leaves ∙ ap (λ ms. brought_in (first_of ms) s) e)
