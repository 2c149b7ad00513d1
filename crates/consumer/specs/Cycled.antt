-- What a call of cycle does.
use Rattle.std.specs.Prelude.{◌≡◌, ℕ, Bool, true, false, List, length, Some, None, Ok, Err, Option, Result, nat_lt}
use Rattle.carrier.specs.declared.lane.Lane.{Lane}
use Rattle.carrier.specs.declared.lane.Lane.TheVariants.{Up, Down}
use Rattle.carrier.specs.Fetch.{Brought, Got, brought_in}
use Rattle.carrier.specs.Lanes.{Lanes}
use Rattle.carrier.specs.Place.{Placed, place_answer}
use Rattle.consumer.specs.declared.event.CycleAnswer.{CycleAnswer}
use Rattle.consumer.specs.declared.event.CycleRefusal.{CycleRefusal}
use Rattle.consumer.specs.declared.event.CycleRefusal.TheVariants.{ShortBuffer}
use Rattle.consumer.specs.declared.event.Turn.{Turn}
use Rattle.consumer.specs.declared.inputs.Inputs.{Inputs}
use Rattle.consumer.specs.declared.state.State.{State}
use Rattle.consumer.specs.declared.state.TimedRequest.{TimedRequest}
use Rattle.consumer.specs.Steps.{turn, cycle, fetches, made, answer_of}
use Rattle.message.specs.declared.parameters.Parameters.{Parameters}
use Rattle.message.specs.Layout.{request_octets}
use Rattle.message.specs.Response.{longest}
use Rattle.record.specs.Kind.{Format}

abbrev pub refusal_number : CycleRefusal → ℕ
refusal_number ShortBuffer = 7

-- a fetch, if there is one
abbrev pub FetchedIf : Bool → Lane → Lanes → Brought → Lanes → Type 0
FetchedIf true l before b after = Got l before after b
FetchedIf false l before b after = (b ≡ None) × (after ≡ before)

-- the request that was made, if any, is placed on the up lane; full counts as lost
abbrev pub Sent : Lanes → Option TimedRequest → Bool → Lanes → Type 0
Sent before None taken after = (taken ≡ false) × (after ≡ before)
Sent before (Some q) taken after = Placed Up (request_octets q.request) before after (place_answer taken)

-- a cycle: what its fetch brought, the lanes after that, and whether the request that it made was taken
pub record CycledSo {R : Type 0} (f : Format R) (p : Parameters) (c : State R) (i : Inputs) (before : Lanes) (buffer : List ℕ)
    (c' : State R) (after : Lanes) (buffer' : List ℕ) (answer : Result (CycleAnswer R) CycleRefusal) : Type 0 where
  pub brought : Brought
  pub between : Lanes
  pub taken : Bool
  pub fetched : FetchedIf (fetches p c i) Down before brought between
  pub sent : Sent between (made (turn f p c i brought) (cycle f p c i brought)) taken after
  pub state : c' ≡ cycle f p c i brought
  pub answers : answer ≡ Ok (answer_of (turn f p c i brought) (cycle f p c i brought))
  pub leaves : buffer' ≡ brought_in brought buffer

-- what a cycle meets: the turn, of what its fetch brought, if it fetched
pub record Met {R : Type 0} (f : Format R) (p : Parameters) (c : State R) (i : Inputs) (before : Lanes) (buffer : List ℕ) (after : Lanes)
    (buffer' : List ℕ) (met : Turn R) : Type 0 where
  pub brought : Brought
  pub fetched : FetchedIf (fetches p c i) Down before brought after
  pub turns : met ≡ turn f p c i brought
  pub leaves : buffer' ≡ brought_in brought buffer

-- the request that was made, if any, is on its way
pub record SentSo (before : Lanes) (q : Option TimedRequest) (after : Lanes) : Type 0 where
  pub taken : Bool
  pub sent : Sent before q taken after

-- a refused cycle: state, lanes and buffer stand
pub record CycleRefused {R : Type 0} (c : State R) (before : Lanes) (buffer : List ℕ) (c' : State R) (after : Lanes) (buffer' : List ℕ)
    (answer : Result (CycleAnswer R) CycleRefusal) : Type 0 where
  pub answers : answer ≡ Err ShortBuffer
  pub state : c' ≡ c
  pub lanes : after ≡ before
  pub leaves : buffer' ≡ buffer

-- a short buffer is refused before all else
pub record Cycled {R : Type 0} (f : Format R) (p : Parameters) (c : State R) (i : Inputs) (before : Lanes) (buffer : List ℕ)
    (c' : State R) (after : Lanes) (buffer' : List ℕ) (answer : Result (CycleAnswer R) CycleRefusal) : Type 0 where
  pub short : nat_lt (length buffer) longest ≡ true → CycleRefused c before buffer c' after buffer' answer
  pub cycled : nat_lt (length buffer) longest ≡ false → CycledSo f p c i before buffer c' after buffer' answer
