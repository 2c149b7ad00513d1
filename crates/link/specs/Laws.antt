-- The laws over whole runs.
use Rattle.std.specs.Prelude.{◌≡◌, ℕ, ◌+◌, ◌*◌, ◌≤◌, Bool, true, false, ◌⊎◌, [], ◌∷◌, Some, None, Option, Result}
use Rattle.consumer.specs.declared.event.Turn.TheVariants.{Disabled, Started, Expired, Nothing, Ignored, Fault, Accepted}
use Rattle.link.specs.Runs.{Call, Moment, History, Ran, lanes_at, consumer_at}
use Rattle.link.specs.Runs.Call.{cycled, cycle_refused, served, serve_refused, placed}
use Rattle.link.specs.Words.{Brought, Lanes, CycleAnswer, Setup, Shown, State, TimedRequest, Turn, Inputs}
use Rattle.link.specs.Words.{turn, cycle, made, is_edge, is_repeated, time_of, request_octets, ResponseFlags, ServeAnswer, ServeRefusal, Format}

-- something holds of every call of a history, of which it may name what happened before
abbrev pub Always : {R : Type 0} → (History R → Moment R → Type 0) → History R → Type 0
Always P [] = Unit
Always P (m ∷ h) = Always P h × P h m

-- something holds of what every cycle shows; a refused cycle shows nothing and counts as none
abbrev pub OfShown : {R : Type 0} → (Shown R → Type 0) → Call R → Type 0
OfShown P (cycled i b taken o) = P o.shown
OfShown P (cycle_refused i) = Unit
OfShown P (served r flags b taken x) = Unit
OfShown P (serve_refused r flags x) = Unit
OfShown P (placed l m x) = Unit

-- how many requests the cycles of a history made

-- the request that a call made, if any
abbrev pub made_by : {R : Type 0} → Format R → Setup → State R → Call R → Option TimedRequest
made_by f s c (cycled i b taken o) = made (turn f s.parameters c i b) (cycle f s.parameters c i b)
made_by f s c (cycle_refused i) = None
made_by f s c (served r flags b taken x) = None
made_by f s c (serve_refused r flags x) = None
made_by f s c (placed l m x) = None

abbrev pub count_of : Option TimedRequest → ℕ
count_of None = 0
count_of (Some q) = 1

abbrev pub requests : {R : Type 0} → Format R → Setup → History R → ℕ
requests f s [] = 0
requests f s (m ∷ h) = count_of (made_by f s (consumer_at f s h) m.call) + requests f s h

-- a shown record is fresh

-- a cycle of the history made this request
abbrev pub Made : {R : Type 0} → Format R → Setup → History R → TimedRequest → Type 0
Made f s [] q = ⊥
Made f s (m ∷ h) q = (made_by f s (consumer_at f s h) m.call ≡ Some q) ⊎ Made f s h q

-- this call is a serve that was given this record and fetched exactly the nine octets of this request
abbrev pub Serves : {R : Type 0} → Call R → TimedRequest → R → Type 0
Serves (cycled i b taken o) q r = ⊥
Serves (cycle_refused i) q r = ⊥
Serves (served given flags b taken x) q r = (given ≡ r) × (b ≡ Some (request_octets q.request))
Serves (serve_refused given flags x) q r = ⊥
Serves (placed l m x) q r = ⊥

-- the record was given to a serve that fetched the request after a cycle had made it
abbrev pub Given : {R : Type 0} → Format R → Setup → History R → TimedRequest → R → Type 0
Given f s [] q r = ⊥
Given f s (m ∷ h) q r = (Serves m.call q r × Made f s h q) ⊎ Given f s h q r

-- the time of the last cycle
abbrev pub clock : {R : Type 0} → State R → ℕ
clock c = time_of c.time 0

-- a record that is fresh after a cycle left the consumer in this state
pub record FreshRecord {R : Type 0} (f : Format R) (s : Setup) (before : History R) (after : State R) (r : R) : Type 0 where
  -- the last accepted request
  pub request : TimedRequest
  pub accepted : after.accepted ≡ Some request
  -- the record answers it
  pub given : Given f s before request r
  -- and it is at most two timeouts old
  pub age : clock after ≤ request.time + 2 * s.parameters.timeout

-- what is shown as process values is fresh
abbrev pub Fresh : {R : Type 0} → Format R → Setup → History R → Type 0
Fresh f s = Always (λ h m. OfShown
    (λ o. o.fsv_activated ≡ false → FreshRecord f s h (consumer_at f s (m ∷ h)) o.safety_data) m.call)

-- by the mark, what is shown is the substitute or process values

-- substitutes are shown: the mark is on, and the record is the substitute
pub record Substitutes {R : Type 0} (f : Format R) (o : Shown R) : Type 0 where
  pub mark : o.fsv_activated ≡ true
  pub substitute : o.safety_data ≡ f.substitute

abbrev pub Marked : {R : Type 0} → Format R → History R → Type 0
Marked f = Always (λ h m. OfShown (λ o. o.fsv_activated ≡ true → Substitutes f o) m.call)

-- a repeated fault shows substitutes until an acknowledgment edge

abbrev pub IsFault : {R : Type 0} → Turn R → Type 0
IsFault Disabled = ⊥
IsFault Started = ⊥
IsFault Expired = ⊥
IsFault Nothing = ⊥
IsFault Ignored = ⊥
IsFault (Fault fault) = Unit
IsFault (Accepted r flags) = ⊥

-- this call is a cycle with a fault no more than the error interval after the fault before it
abbrev pub Repeats : {R : Type 0} → Format R → Setup → State R → Call R → Type 0
Repeats f s c (cycled i b taken o) =
    IsFault (turn f s.parameters c i b) × (is_repeated s.parameters c.fault_time (time_of c.time i.reading) ≡ true)
Repeats f s c (cycle_refused i) = ⊥
Repeats f s c (served r flags b taken x) = ⊥
Repeats f s c (serve_refused r flags x) = ⊥
Repeats f s c (placed l m x) = ⊥

-- this call is an enabled cycle that sees an acknowledgment edge
abbrev pub Acknowledges : {R : Type 0} → State R → Call R → Type 0
Acknowledges c (cycled i b taken o) = (i.enable ≡ true) × (is_edge c i.ack ≡ true)
Acknowledges c (cycle_refused i) = ⊥
Acknowledges c (served r flags b taken x) = ⊥
Acknowledges c (serve_refused r flags x) = ⊥
Acknowledges c (placed l m x) = ⊥

-- there was a repeated fault, and no acknowledgment edge since
abbrev pub Unacknowledged : {R : Type 0} → Format R → Setup → History R → Type 0
Unacknowledged f s [] = ⊥
Unacknowledged f s (m ∷ h) =
    Repeats f s (consumer_at f s h) m.call ⊎ (Unacknowledged f s h × (Acknowledges (consumer_at f s h) m.call → ⊥))

abbrev pub Held : {R : Type 0} → Format R → Setup → History R → Type 0
Held f s = Always (λ h m. Unacknowledged f s (m ∷ h) → OfShown (Substitutes f) m.call)

-- undisturbed rounds show the record just given

-- both lanes are empty, no request stands and there is no hold
pub record Quiet {R : Type 0} (c : State R) (l : Lanes) : Type 0 where
  pub up : l.up ≡ []
  pub down : l.down ≡ []
  pub standing : c.standing ≡ None
  pub hold : c.hold ≡ false

-- no reading runs back, and each after the first of the rounds rises by 0 up to the timeout
abbrev pub Timely : {R : Type 0} → Setup → Option R → Option ℕ → ℕ → Type 0
Timely s given None reading = Unit
Timely s None (Some before) reading = before ≤ reading
Timely s (Some r) (Some before) reading = (before ≤ reading) × (reading ≤ before + s.parameters.timeout)

-- undisturbed rounds up to the end of a history, and the record given to the last serve of them, if any: each is one
-- enabled cycle and then one serve of a sound record that does not ask for substitutes
pub data Rounds {R : Type 0} (f : Format R) (s : Setup) (first : Lanes) : History R → Option R → Type 0 where
  start : {h : History R} → Quiet (consumer_at f s h) (lanes_at first h) → Rounds f s first h None
  round : {h : History R} {given : Option R} (i : Inputs) (b : Brought) (taken : Bool) (o : CycleAnswer R) (l : Lanes)
      (r : R) (flags : ResponseFlags) (b' : Brought) (taken' : Bool) (x : Result ServeAnswer ServeRefusal) (l' : Lanes)
      → Rounds f s first h given → i.enable ≡ true → Timely s given (consumer_at f s h).time i.reading
      → flags.activate_fsv ≡ false
      → Rounds f s first (record { call = served r flags b' taken' x; lanes = l' } ∷ record { call = cycled i b taken o; lanes = l } ∷ h) (Some r)

-- the next cycle of the rounds shows, as process values, the record given to the serve just before it
abbrev pub ShowsGiven : {R : Type 0} → Format R → Setup → Lanes → History R → Call R → Type 0
ShowsGiven {R} f s first h (cycled i b taken o) =
    (r : R) → Rounds f s first h (Some r) → i.enable ≡ true → Timely s (Some r) (consumer_at f s h).time i.reading
    → (o.shown.fsv_activated ≡ false) × (o.shown.safety_data ≡ r)
ShowsGiven f s first h (cycle_refused i) = Unit
ShowsGiven f s first h (served r flags b taken x) = Unit
ShowsGiven f s first h (serve_refused r flags x) = Unit
ShowsGiven f s first h (placed l m x) = Unit

abbrev pub Prompt : {R : Type 0} → Format R → Setup → Lanes → History R → Type 0
Prompt f s first = Always (λ h m. ShowsGiven f s first h m.call)

-- all of them, of a history over a carrier that began with these lanes
pub record Laws {R : Type 0} (f : Format R) (s : Setup) (first : Lanes) (h : History R) : Type 0 where
  pub fresh : Fresh f s h
  pub marked : Marked f h
  pub held : Held f s h
  pub prompt : first.steady ≡ true → Prompt f s first h

-- so many requests have numbers that differ
abbrev pub most_requests : ℕ
most_requests = 4294967040

-- the laws hold of every history that can happen and made no more requests than that
abbrev pub Every_run : {R : Type 0} → Format R → Type 0
Every_run {R} f = (s : Setup) (first : Lanes) (h : History R) → Ran f s first h → requests f s h ≤ most_requests → Laws f s first h
