-- What the answer of a place tells its caller.
use Rattle.std.proofs.Common.{◌≡◌, Bool, true, false, ⊎_elim}
use Rattle.carrier.specs.declared.lane.Lane.{Lane}
use Rattle.carrier.specs.Lanes.{Message, Lanes}
use Rattle.carrier.specs.Place.{Placed, Answer, sendable, place_answer}

-- a message of lawful length is taken, or the lane is full
pub taken_or_full : (l : Lane) (m : Message) (before after : Lanes) (r : Answer) → sendable m ≡ true → Placed l m before after r
    → (taken : Bool) × (r ≡ place_answer taken)
taken_or_full l m before after r ok p = ⊎_elim (λ e. (true, e)) (λ e. (false, e)) (p.put ok).answers
