-- What a call on a link says of every history that led to it.
use Rattle.std.specs.Prelude.{◌≡◌, ◌≤◌, Bool, ◌∷◌, Ok, Err, Result}
use Rattle.consumer.specs.declared.consumer.Consumer.{Consumer}
use Rattle.consumer.specs.declared.event.CycleRefusal.{CycleRefusal}
use Rattle.link.specs.declared.link.Link.{Link}
use Rattle.provider.specs.declared.answer.ServeRefusal.TheVariants.{ShortBuffer, UnsoundRecord, NotARequest, Full}
use Rattle.provider.specs.declared.provider.Provider.{Provider}
use Rattle.link.specs.Laws.{Laws, requests, most_requests}
use Rattle.link.specs.Runs.{Call, Moment, History, Ran, lanes_at, consumer_at, provider_at}
use Rattle.link.specs.Runs.Call.{cycled, cycle_refused, served, serve_refused}
use Rattle.link.specs.Words.{Brought, Lanes, CycleAnswer, Inputs, ResponseFlags, ServeAnswer, ServeRefusal, Format}

-- both ends of a link, and its lanes
pub record Ends (R : Type 0) : Type 0 where
  pub consumer : Consumer R
  pub provider : Provider R
  pub lanes : Lanes

abbrev pub ends : {R C : Type 0} → (C → Lanes) → Link R C → Ends R
ends lanes link = record { consumer = link.consumer; provider = link.provider; lanes = lanes link.carrier }

-- this history leads from the making of a link to these ends and lanes
pub record Reached {R : Type 0} (f : Format R) (first : Lanes) (h : History R) (e : Ends R) : Type 0 where
  pub equal : e.provider.parameters ≡ e.consumer.setup.parameters
  pub ran : Ran f e.consumer.setup first h
  pub consumer : consumer_at f e.consumer.setup h ≡ e.consumer.state
  pub provider : provider_at f h ≡ e.provider.memory
  pub lanes : lanes_at first h ≡ e.lanes

-- a call and the lanes that it left
abbrev pub moment : {R : Type 0} → Call R → Lanes → Moment R
moment x l = record { call = x; lanes = l }

-- every history that led to the state before a call leads, with the call, to the state after it, and all laws hold of it
-- while at most 4,294,967,040 requests were made; the parameters are those of before
pub record Extends {R : Type 0} (f : Format R) (x : Call R) (e e' : Ends R) : Type 0 where
  pub setup : e'.consumer.setup ≡ e.consumer.setup
  pub parameters : e'.provider.parameters ≡ e.provider.parameters
  pub reaches : (first : Lanes) (h : History R) → Reached f first h e → Reached f first (moment x e'.lanes ∷ h) e'
  pub laws : (first : Lanes) (h : History R) → Reached f first h e
      → requests f e.consumer.setup (moment x e'.lanes ∷ h) ≤ most_requests → Laws f e.consumer.setup first (moment x e'.lanes ∷ h)

-- the call that a cycle with this answer was
abbrev pub cycle_call : {R : Type 0} → Inputs → Brought → Bool → Result (CycleAnswer R) CycleRefusal → Call R
cycle_call i b taken (Ok o) = cycled i b taken o
cycle_call i b taken (Err e) = cycle_refused i

pub record CycleRuns {R : Type 0} (f : Format R) (i : Inputs) (e e' : Ends R) (answer : Result (CycleAnswer R) CycleRefusal) : Type 0 where
  pub brought : Brought
  pub taken : Bool
  pub extends : Extends f (cycle_call i brought taken answer) e e'

-- the call that a serve with this answer was
abbrev pub serve_call : {R : Type 0} → R → ResponseFlags → Brought → Bool → Result ServeAnswer ServeRefusal → Call R
serve_call r flags b taken (Ok x) = served r flags b taken (Ok x)
serve_call r flags b taken (Err NotARequest) = served r flags b taken (Err NotARequest)
serve_call r flags b taken (Err Full) = served r flags b taken (Err Full)
serve_call r flags b taken (Err ShortBuffer) = serve_refused r flags ShortBuffer
serve_call r flags b taken (Err UnsoundRecord) = serve_refused r flags UnsoundRecord

pub record ServeRuns {R : Type 0} (f : Format R) (r : R) (flags : ResponseFlags) (e e' : Ends R) (answer : Result ServeAnswer ServeRefusal)
    : Type 0 where
  pub brought : Brought
  pub taken : Bool
  pub extends : Extends f (serve_call r flags brought taken answer) e e'
