-- What the lanes hold after a place or a fetch.
use Rattle.std.proofs.Common.{◌≡◌, Bool, true, false, ◌⊎◌, Some, None, Option, Result, refl, inl, inr}
use mathlib.Core.List.{Memᴰ}
use Rattle.carrier.specs.declared.lane.Lane.TheVariants.{Up, Down}
use Rattle.std.proofs.lemmas.Bool.{cases_Bool}
use Rattle.link.specs.Runs.{FetchedIf, Replied, Sent}
use Rattle.link.specs.Words.{Brought, Fixed, Format, Lane, Lanes, Message, NoGain, Parameters, PlaceRefusal, Placed, Put, Response}
use Rattle.link.specs.Words.{TimedRequest}
use Rattle.link.specs.Words.{lane_of, other, request_octets, response_octets, sendable}

-- neither lane gains a message
pub record NoGains (before after : Lanes) : Type 0 where
  pub up : NoGain before.up after.up
  pub down : NoGain before.down after.down
  pub fixed : Fixed before after

lane_gain : (l : Lane) {before after : Lanes} → NoGains before after → NoGain (lane_of l before) (lane_of l after)
lane_gain Up g = g.up
lane_gain Down g = g.down

pub same_gains : {before after : Lanes} → after ≡ before → NoGains before after
same_gains e = rw e (record {
  up = λ m h. h;
  down = λ m h. h;
  fixed = record { steady = refl; standing = refl; up_slots = refl; down_slots = refl };
})

-- a fetch, if there was one
pub fetched_gains : (z : Bool) (l : Lane) (before : Lanes) (b : Brought) (after : Lanes) → FetchedIf z l before b after
    → NoGains before after
fetched_gains true l before b after g = record { up = g.up; down = g.down; fixed = g.fixed }
fetched_gains false l before b after g = same_gains g.1

module _ {l : Lane} {m : Message} {before after : Lanes} {x : Result Unit PlaceRefusal} (p : Placed l m before after x) where
  put_or_same : Put l m before after x ⊎ (after ≡ before)
  put_or_same = elim (cases_Bool (sendable m)) [ inl e ↦ inl (p.put e) | inr e ↦ inr (p.refused e).1 ]

  pub placed_here : (y : Message) → Memᴰ y (lane_of l after) → Memᴰ y (lane_of l before) ⊎ (y ≡ m)
  placed_here y h = elim put_or_same [
    | inl put ↦ elim (put.this_lane y h) [ inl i ↦ inl i | inr e ↦ inr e.1 ]
    | inr e ↦ inl (lane_gain l (same_gains e) y h)
  ]

  pub placed_there : NoGain (lane_of (other l) before) (lane_of (other l) after)
  placed_there = elim put_or_same [ inl put ↦ put.other_lane | inr e ↦ lane_gain (other l) (same_gains e) ]

  pub placed_fixed : Fixed before after
  placed_fixed = elim put_or_same [ inl put ↦ put.fixed | inr e ↦ (same_gains e).fixed ]

-- a place of what there is to send, if anything
pub data Placing {A : Type 0} (l : Lane) (octets : A → Message) (o : Option A) (before after : Lanes) : Type 0 where
  idle : after ≡ before → Placing l octets o before after
  places : (a : A) {x : Result Unit PlaceRefusal} → o ≡ Some a → Placed l (octets a) before after x → Placing l octets o before after

abbrev pub octets_of : TimedRequest → Message
octets_of q = request_octets q.request

pub sent_places : (before : Lanes) (o : Option TimedRequest) (taken : Bool) (after : Lanes) → Sent before o taken after
    → Placing Up octets_of o before after
sent_places before None taken after g = idle g.1
sent_places before (Some q) taken after g = places q refl g

pub replied_places : {R : Type 0} (f : Format R) (p : Parameters) (before : Lanes) (o : Option (Response R)) (taken : Bool) (after : Lanes)
    → Replied f p before o taken after → Placing Down (response_octets f p) o before after
replied_places f p before None taken after g = idle g.1
replied_places f p before (Some y) taken after g = places y refl g

module _ {A : Type 0} {l : Lane} {octets : A → Message} {o : Option A} {before after : Lanes} where
  pub placing_here : Placing l octets o before after → (m : Message) → Memᴰ m (lane_of l after)
      → Memᴰ m (lane_of l before) ⊎ ((a : A) × (o ≡ Some a) × (m ≡ octets a))
  placing_here (idle e) m h = inl (lane_gain l (same_gains e) m h)
  placing_here (places a e p) m h = elim (placed_here p m h) [ inl i ↦ inl i | inr is ↦ inr (a, e, is) ]

  pub placing_there : Placing l octets o before after → NoGain (lane_of (other l) before) (lane_of (other l) after)
  placing_there (idle e) = lane_gain (other l) (same_gains e)
  placing_there (places a e p) = placed_there p

  pub placing_fixed : Placing l octets o before after → Fixed before after
  placing_fixed (idle e) = (same_gains e).fixed
  placing_fixed (places a e p) = placed_fixed p
