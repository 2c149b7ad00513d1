-- What is shown as process values was given to a serve that fetched the last accepted request, at most two timeouts ago.
use Rattle.std.proofs.Common.{◌≡◌, ℕ, ◌+◌, ◌≤◌, Bool, true, false, not, ◌&&◌, ◌||◌, [], ◌∷◌, Some, sym, refl, ◌∙◌, subst, inl, inr, arith}
use Rattle.carrier.specs.declared.lane.Lane.TheVariants.{Down}
use Rattle.consumer.specs.declared.event.Turn.TheVariants.{Disabled, Started, Expired, Nothing, Ignored, Fault, Accepted}
use Rattle.message.proofs.ReadBack.{consumer_is, number_is, record_is}
use Rattle.record.specs.Results.{ok_is}
use Rattle.std.proofs.lemmas.Bool.{both_ways, cond-false}
use Rattle.link.specs.Laws.{Fresh, FreshRecord, Given, OfShown, clock, requests, most_requests}
use Rattle.link.specs.Runs.{Call, CycleHappens, Happens, History, Moment, Ran, consumer_after, consumer_at, lanes_at, provider_at}
use Rattle.link.specs.Runs.Call.{cycled, cycle_refused, served, serve_refused, placed}
use Rattle.link.specs.Words.{Brought, Came, CycleAnswer, Format, Inputs, Lanes, Lawful, Memory, Message, Parameters, Response}
use Rattle.link.specs.Words.{ResponseFlags, Setup, Shown, State, TimedRequest, Turn}
use Rattle.link.specs.Words.{after_fault, after_turn, is_edge, is_repeated, response_octets, sound, time_of, turn, wish_ended}
use Rattle.link.proofs.Origins.{Built, Known, known}
use Rattle.link.proofs.Requests.{given_made, made_once, some_is}
use Rattle.link.proofs.Turns.{Answers, Met, Waits, met, waits_fetches, waits_time}
use Rattle.link.proofs.Verdicts.{Fits, accepted_fits}

-- the last accepted request was answered by what is shown, and the request that stands followed it in time
record Recent {R : Type 0} (f : Format R) (s : Setup) (h : History R) (c : State R) : Type 0 where
  last : TimedRequest
  next : TimedRequest
  accepted : c.accepted ≡ Some last
  given : Given f s h last c.shown.safety_data
  standing : c.standing ≡ Some next
  early : next.time ≤ last.time + s.parameters.timeout
  late : clock c ≤ next.time + s.parameters.timeout

-- process values are shown only if they are recent
abbrev Shows : {R : Type 0} → Format R → Setup → History R → State R → Type 0
Shows f s h c = c.shown.fsv_activated ≡ false → Recent f s h c

-- a fault that leaves process values on show leaves them as they are
fault_shows : {R : Type 0} (f : Format R) (z : Bool) (o : Shown R) → (after_fault f z o).fsv_activated ≡ false
    → (o.fsv_activated ≡ false) × ((after_fault f z o).safety_data ≡ o.safety_data)
fault_shows f true o e = absurd (both_ways true e refl)
fault_shows f false o e = (e, refl)

module _ {R : Type 0} {f : Format R} (laws : Lawful f) {s : Setup} {h : History R} {c : State R} {memory : Memory R} {l after : Lanes}
    {i : Inputs} {b : Brought} {taken : Bool} {o : CycleAnswer R} (k : Known f s h c memory l) (few : requests f s h ≤ most_requests)
    (g : CycleHappens f s c l i b taken o after) where
  abbrev p : Parameters
  p = s.parameters

  abbrev now : ℕ
  now = time_of c.time i.reading

  -- what answers the standing request was given to a serve that fetched it
  built_given : (q : TimedRequest) (m : Message) (r : R) → c.standing ≡ Some q → Fits f p q m r → (y : Response R)
      → m ≡ response_octets f p y → Built f s h y → Given f s h q r
  built_given q m r stands fits y is built =
      let value = ok_is (sym (record_is f laws p y built.is_sound built.consumer built.number m is) ∙ fits.value) in
      let consumer = sym (consumer_is f laws p y built.is_sound built.consumer built.number m is) ∙ fits.consumer in
      let number = sym (number_is f laws p y built.is_sound built.consumer built.number m is) ∙ fits.number in
      let (q', is', given) = built.ours consumer in
      let same = made_once f s h q' q few (given_made f s h q' y.safety_data given) (k.standing q stands) (sym is' ∙ number) in
      subst (λ z. Given f s h z r) same (subst (Given f s h q') value given)

  answer_given : (r : R) (flags : ResponseFlags) (a : Answers f p c i b r flags) → Given f s h a.request r
  answer_given r flags a =
      let m = a.message in
      let got = waits_fetches a.waits l b g.between g.fetched in
      let fits = accepted_fits laws p c.accepted a.request m r flags a.accepted in
      elim (subst (Came Down l) a.brought got.came).2 [
        | inl j ↦ (let (y, is, built) = k.down m j fits.sound fits.long fits.identities in
            built_given a.request m r a.waits.stands fits y is built)
        | inr unsound ↦ absurd (both_ways (sound m) unsound fits.sound)
      ]

  -- while the request stands on, what is shown stays recent
  stays_recent : {q : TimedRequest} → Waits p c i q → (c' : State R) → c'.accepted ≡ c.accepted → c'.standing ≡ c.standing
      → c'.time ≡ Some now → c'.shown.safety_data ≡ c.shown.safety_data → Recent f s h c → Recent f s h c'
  stays_recent {q} w c' accepted standing time value u =
      let bound = waits_time w in
      let same : q ≡ u.next = some_is (sym w.stands ∙ u.standing) in
      record {
        last = u.last;
        next = u.next;
        accepted = accepted ∙ u.accepted;
        given = rw value u.given;
        standing = standing ∙ u.standing;
        early = u.early;
        late = rw (time, ← same) (omega arith);
      }

  turn_recent : Shows f s h c → (t : Turn R) → Met f p c i b t → Shows f s h (after_turn f p c now i.ack (is_edge c i.ack) t)
  turn_recent u Disabled m e = absurd (both_ways true e refl)
  turn_recent u Started m e = absurd (both_ways true e refl)
  turn_recent u Expired m e = absurd (both_ways true e refl)
  turn_recent u Nothing (q, w) e = stays_recent w _ refl refl refl refl (u e)
  turn_recent u Ignored (q, w) e = stays_recent w _ refl refl refl refl (u e)
  turn_recent u (Fault fault) (q, w) e =
      let (shown, value) = fault_shows f (is_repeated p c.fault_time now) (wish_ended (is_edge c i.ack) c.shown) e in
      stays_recent w _ refl refl refl value (u shown)
  turn_recent u (Accepted r flags) m e =
      let bound = waits_time m.waits in
      let value = cond-false (c.hold && not (is_edge c i.ack) || flags.activate_fsv) f.substitute r e in
      record {
        last = m.request;
        next = _;
        accepted = m.waits.stands;
        given = rw value (answer_given r flags m);
        standing = refl;
        early = bound;
        late = omega arith;
      }

-- what a cycle answers is what its state shows
answer_fresh : {R : Type 0} (f : Format R) (s : Setup) (h : History R) (c : State R) (memory : Memory R) (l after : Lanes) (x : Call R)
    → Happens f s c memory l x after → Shows f s h (consumer_after f s c x)
    → OfShown (λ o. o.fsv_activated ≡ false → FreshRecord f s h (consumer_after f s c x) o.safety_data) x
answer_fresh f s h c memory l after (cycled i b taken o) g u = rw g.answer (λ e.
    record { request = (u e).last; accepted = (u e).accepted; given = (u e).given; age = omega (arith, (u e).early, (u e).late) })
answer_fresh f s h c memory l after (cycle_refused i) g u = tt
answer_fresh f s h c memory l after (served r flags b taken x) g u = tt
answer_fresh f s h c memory l after (serve_refused r flags x) g u = tt
answer_fresh f s h c memory l after (placed way m x) g u = tt

recent_on : {R : Type 0} {f : Format R} {s : Setup} {h : History R} {c : State R} (x : Moment R) → Recent f s h c → Recent f s (x ∷ h) c
recent_on x u = record {
  last = u.last;
  next = u.next;
  accepted = u.accepted;
  given = inr u.given;
  standing = u.standing;
  early = u.early;
  late = u.late;
}

module _ {R : Type 0} (f : Format R) (laws : Lawful f) (s : Setup) (first : Lanes) where
  call_recent : (h : History R) (l : Lanes) (x : Call R) → Ran f s first h → requests f s h ≤ most_requests
      → Happens f s (consumer_at f s h) (provider_at f h) (lanes_at first h) x l → Shows f s h (consumer_at f s h)
      → Shows f s h (consumer_after f s (consumer_at f s h) x)
  call_recent h l (cycled i b taken o) ran few g u =
      let c = consumer_at f s h in
      turn_recent laws (known f s first h ran) few g u (turn f s.parameters c i b) (met f s.parameters c i b)
  call_recent h l (cycle_refused i) ran few g u = u
  call_recent h l (served r flags b taken x) ran few g u = u
  call_recent h l (serve_refused r flags x) ran few g u = u
  call_recent h l (placed way m x) ran few g u = u

  recent : (h : History R) → Ran f s first h → requests f s h ≤ most_requests → Shows f s h (consumer_at f s h)
  recent [] ran few = λ e. absurd (both_ways true e refl)
  recent (x ∷ h) (ran, happens) few = λ e.
      recent_on x (call_recent h x.lanes x.call ran (omega arith) happens (recent h ran (omega arith)) e)

  pub fresh_runs : (h : History R) → Ran f s first h → requests f s h ≤ most_requests → Fresh f s h
  fresh_runs [] ran few = tt
  fresh_runs (x ∷ h) (ran, happens) few =
      let now = call_recent h x.lanes x.call ran (omega arith) happens (recent h ran (omega arith)) in
      let c = consumer_at f s h in
      (fresh_runs h ran (omega arith), answer_fresh f s h c (provider_at f h) (lanes_at first h) x.lanes x.call happens now)
