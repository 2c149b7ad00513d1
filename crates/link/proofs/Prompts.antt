-- Undisturbed rounds show the record just given.
use Rattle.std.proofs.Common.{◌≡◌, ℕ, ◌+◌, ◌≤◌, Bool, true, false, not, ◌&&◌, ◌||◌, ltb, [], ◌∷◌, Some, None, Option, sym, refl, inl, inr, arith}
use Rattle.carrier.specs.declared.lane.Lane.TheVariants.{Up, Down}
use Rattle.consumer.specs.declared.event.Turn.TheVariants.{Started, Accepted}
use Rattle.std.proofs.lemmas.Bool.{and_left, cond-false, le-ltb, ne_eqb, or_from}
use Rattle.link.specs.Laws.{Made, Prompt, Quiet, Rounds, ShowsGiven, Timely, requests, most_requests}
use Rattle.link.specs.Laws.Rounds.{start, round}
use Rattle.link.specs.Runs.{Call, CycleHappens, Happens, History, Moment, Ran, consumer_at, lanes_at, place_answer, provider_at}
use Rattle.link.specs.Runs.Call.{cycled, cycle_refused, served, serve_refused, placed}
use Rattle.link.specs.Words.{Brought, CycleAnswer, Format, Inputs, Lanes, Lawful, Memory, Parameters, Placed, ResponseFlags, Setup, State}
use Rattle.link.specs.Words.{TimedRequest, Turn}
use Rattle.link.specs.Words.{accepted_before, after_turn, cycle, fetches, is_edge, made, number_of, request_octets, response_octets, turn}
use Rattle.link.proofs.Carries.{fetched_gains, placed_fixed}
use Rattle.link.proofs.Origins.{Known, known}
use Rattle.link.proofs.Requests.{accepted_from, call_step, made_large, made_numbered, made_small, new_number}
use Rattle.link.proofs.Replies.{response_accepted, response_for, serve_replies}
use Rattle.link.proofs.Steady.{Firm, Free, fetched_alone, firm_on, firm_runs, free_on, placed_alone}
use Rattle.link.proofs.Turns.{Waits, waits_fetches}

-- the request that stands was made by the last cycle, and there is no hold
record Stands {R : Type 0} (c : State R) (q : TimedRequest) : Type 0 where
  standing : c.standing ≡ Some q
  hold : c.hold ≡ false
  time : c.time ≡ Some q.time

-- after a round its request stands, and its response with the record just given waits alone
record Ready {R : Type 0} (f : Format R) (p : Parameters) (c : State R) (l : Lanes) (r : R) : Type 0 where
  request : TimedRequest
  flags : ResponseFlags
  stands : Stands c request
  new : accepted_before c.accepted (number_of request) ≡ false
  is_sound : f.sound r ≡ true
  calm : flags.activate_fsv ≡ false
  up : Free Up l
  down : l.down ≡ response_octets f p (response_for p request r flags) ∷ []

-- before a cycle of the rounds: the first, or one after a round
abbrev Before : {R : Type 0} → Format R → Parameters → State R → Lanes → Option R → Type 0
Before f p c l None = Quiet c l
Before f p c l (Some r) = Ready f p c l r

-- a cycle of the rounds makes a request
record Goes {R : Type 0} (after : State R) (new : Option TimedRequest) : Type 0 where
  request : TimedRequest
  made : new ≡ Some request
  stands : Stands after request

module _ {R : Type 0} (f : Format R) (p : Parameters) (c : State R) (time : ℕ) (ack edge : Bool) (free : c.hold ≡ false) where
  abbrev GoesBy : Turn R → Type 0
  GoesBy t = Goes (after_turn f p c time ack edge t) (made t (after_turn f p c time ack edge t))

  released : (c.hold && not edge) ≡ false
  released = and_left c.hold (not edge) free

  goes_started : GoesBy Started
  goes_started = record { request = _; made = refl; stands = record { standing = refl; hold = released; time = refl } }

  goes_accepted : (r : R) (flags : ResponseFlags) → GoesBy (Accepted r flags)
  goes_accepted r flags = record { request = _; made = refl; stands = record { standing = refl; hold = released; time = refl } }

started : {R : Type 0} (f : Format R) (p : Parameters) (c : State R) (i : Inputs) (b : Brought) → i.enable ≡ true → c.standing ≡ None
    → turn f p c i b ≡ Started
unfolding turn
started f p c i b on e = rw (on, e)

module _ {R : Type 0} {f : Format R} (laws : Lawful f) {s : Setup} {h : History R} {c : State R} {memory : Memory R} {l after : Lanes}
    {i : Inputs} {b : Brought} {taken : Bool} {o : CycleAnswer R} (k : Known f s h c memory l) (firm : Firm l) (on : i.enable ≡ true)
    (g : CycleHappens f s c l i b taken o after) where
  abbrev p : Parameters
  p = s.parameters

  abbrev mid : Lanes
  mid = g.between

  abbrev new : Option TimedRequest
  new = made (turn f p c i b) (cycle f p c i b)

  ready_waits : {r : R} (y : Ready f p c l r) → Timely s (Some r) c.time i.reading → Waits p c i y.request
  ready_waits y timely =
      let last = y.request.time in
      let (later, soon) : (last ≤ i.reading) × (i.reading ≤ last + p.timeout) = rw y.stands.time at timely in
      record {
        enabled = on;
        stands = y.stands.standing;
        lasts = rw y.stands.time (or_from (ltb i.reading last) (ltb p.timeout _)
            (le-ltb i.reading last later) (le-ltb p.timeout _ (omega arith)));
      }

  -- a cycle after a round accepts
  ready_turn : {r : R} (y : Ready f p c l r) → Timely s (Some r) c.time i.reading
      → (turn f p c i b ≡ Accepted r y.flags) × Free Up mid × Free Down mid
  unfolding turn
  ready_turn y timely =
      let q = y.request in
      let w = ready_waits y timely in
      let got = waits_fetches w l b mid g.fetched in
      let (brought, down, up) = fetched_alone Down firm y.down got in
      let made = k.standing q y.stands.standing in
      let small = made_small f s h q made in
      let accepted = response_accepted laws p q small y.is_sound y.flags (made_large f s h q made) c.accepted y.new in
      (rw (w.enabled, w.stands, w.lasts, brought, accepted), free_on Up got.fixed up y.up, down)

  -- nothing waits in the lanes where its request is placed
  cycle_goes : (given : Option R) → Before f p c l given → Timely s given c.time i.reading
      → Goes (cycle f p c i b) new × Free Up mid × Free Down mid
  cycle_goes None quiet timely =
      let same : mid ≡ l = (rw (on, quiet.standing) at g.fetched).1 in
      let goes = goes_started f p c _ _ _ quiet.hold in
      (rw (started f p c i b on quiet.standing) goes, rw same (λ _. quiet.up), rw same (λ _. quiet.down))
  cycle_goes (Some r) y timely =
      let (e, up, down) = ready_turn y timely in
      (rw e (goes_accepted f p c _ _ _ y.stands.hold r y.flags), up, down)

  -- so it is alone on its way up
  cycle_sends : (q : TimedRequest) → new ≡ Some q → Free Up mid → Free Down mid
      → (after.up ≡ request_octets q.request ∷ []) × Free Down after
  cycle_sends q made up down =
      let put : Placed Up (request_octets q.request) mid after (place_answer taken) = rw made at g.sent in
      let still = firm_on (fetched_gains (fetches p c i) Down l b mid g.fetched).fixed firm in
      let (this, that) = placed_alone Up refl still up put in
      (this, free_on Down (placed_fixed put) that down)

accepted_new : (number : ℕ) (o : Option TimedRequest) → ((q : TimedRequest) → o ≡ Some q → number_of q ≡ number → ⊥)
    → accepted_before o number ≡ false
accepted_new number None differ = refl
accepted_new number (Some q) differ = ne_eqb number (number_of q) (λ e. differ q refl (sym e))

module _ {R : Type 0} (f : Format R) (laws : Lawful f) (s : Setup) (first : Lanes) (steady : first.steady ≡ true) where
  rounds_ready : {h : History R} {given : Option R} → Rounds f s first h given → Ran f s first h → requests f s h ≤ most_requests
      → Before f s.parameters (consumer_at f s h) (lanes_at first h) given
  rounds_ready (start quiet) ran few = quiet
  rounds_ready (round {h = h} {given = given} i b taken o l r flags b' taken' x l' rounds on timely calm) ((ran, cycles), serves) few =
      let now : Moment R = record { call = cycled i b taken o; lanes = l } in
      let c = consumer_at f s h in
      let k = known f s first h ran in
      let firm = firm_runs f s first steady h ran in
      let (goes, up, down) = cycle_goes laws k firm on cycles given (rounds_ready rounds ran (omega arith)) timely in
      let q = goes.request in
      let (alone, free) = cycle_sends laws k firm on cycles q goes.made up down in
      let made : Made f s (now ∷ h) q = inl goes.made in
      let differs : (q' : TimedRequest) → Made f s h q' → number_of q' ≡ number_of q → ⊥ =
      λ q' older. new_number f s now h q q' (omega arith) goes.made older in
      let older : (q' : TimedRequest) → (cycle f s.parameters c i b).accepted ≡ Some q' → Made f s h q' =
      λ q' e. elim (accepted_from (call_step f s c now.call) q' e) [ inl j ↦ k.accepted q' j | inr j ↦ k.standing q' j ] in
      let (up', down') = serve_replies laws serves k.memory q (made_numbered f s (now ∷ h) q made).consumer
      (made_small f s (now ∷ h) q made) differs (firm_runs f s first steady (now ∷ h) (ran, cycles)) alone free in
      record {
        request = q;
        flags = flags;
        stands = goes.stands;
        new = accepted_new (number_of q) (cycle f s.parameters c i b).accepted (λ q' e. differs q' (older q' e));
        is_sound = serves.is_sound;
        calm = calm;
        up = up';
        down = down';
      }

  call_prompt : (h : History R) (l : Lanes) (x : Call R) → Ran f s first h → requests f s h ≤ most_requests
      → Happens f s (consumer_at f s h) (provider_at f h) (lanes_at first h) x l → ShowsGiven f s first h x
  call_prompt h l (cycled i b taken o) ran few g = λ r rounds on timely.
      let c = consumer_at f s h in
      let y = rounds_ready rounds ran few in
      let turns = (ready_turn laws (known f s first h ran) (firm_runs f s first steady h ran) on g y timely).0 in
      let hold = c.hold && not (is_edge c i.ack) in
      let mark = or_from hold y.flags.activate_fsv (and_left c.hold _ y.stands.hold) y.calm in
      rw (g.answer, turns) (mark, cond-false (hold || y.flags.activate_fsv) f.substitute r mark)
  call_prompt h l (cycle_refused i) ran few g = tt
  call_prompt h l (served r flags b taken x) ran few g = tt
  call_prompt h l (serve_refused r flags x) ran few g = tt
  call_prompt h l (placed w m x) ran few g = tt

  prompt_steady : (h : History R) → Ran f s first h → requests f s h ≤ most_requests → Prompt f s first h
  prompt_steady [] ran few = tt
  prompt_steady (x ∷ h) (ran, happens) few =
      (prompt_steady h ran (omega arith), call_prompt h x.lanes x.call ran (omega arith) happens)

pub prompt_runs : {R : Type 0} (f : Format R) (laws : Lawful f) (s : Setup) (first : Lanes) (h : History R) → Ran f s first h
    → requests f s h ≤ most_requests → first.steady ≡ true → Prompt f s first h
prompt_runs f laws s first h ran few steady = prompt_steady f laws s first steady h ran few
