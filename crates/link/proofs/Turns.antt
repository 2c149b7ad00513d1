-- What a cycle met, of each turn that it takes.
use Rattle.std.proofs.Common.{◌≡◌, ◌+◌, ◌-◌, ◌≤◌, Bool, true, false, cond, ltb, Some, None, Ok, Err, Option, Result, refl, arith}
use Rattle.carrier.specs.declared.lane.Lane.TheVariants.{Down}
use Rattle.consumer.specs.declared.event.Turn.TheVariants.{Disabled, Started, Expired, Nothing, Ignored, Fault, Accepted}
use Rattle.consumer.specs.declared.fault.CycleFault.{CycleFault}
use Rattle.std.proofs.lemmas.Bool.{ltb-false, or_parts}
use Rattle.link.specs.Runs.{FetchedIf}
use Rattle.link.specs.Words.{Brought, Format, Got, Inputs, Lanes, Message, Parameters, ResponseFlags, State, TimedRequest, Turn}
use Rattle.link.specs.Words.{brought_turn, fetches, has_expired, ran_back, standing_turn, time_of, turn, turn_of, judged}

-- an enabled cycle that finds its request standing and not expired
pub record Waits {R : Type 0} (p : Parameters) (c : State R) (i : Inputs) (q : TimedRequest) : Type 0 where
  pub enabled : i.enable ≡ true
  pub stands : c.standing ≡ Some q
  pub lasts : has_expired p c i.reading q ≡ false

-- a request that waited, and the message that was accepted for it
pub record Answers {R : Type 0} (f : Format R) (p : Parameters) (c : State R) (i : Inputs) (b : Brought) (r : R) (flags : ResponseFlags)
    : Type 0 where
  pub request : TimedRequest
  pub waits : Waits p c i request
  pub message : Message
  pub brought : b ≡ Some message
  pub accepted : judged f p c.accepted request message ≡ Ok (Accepted r flags)

-- what a cycle met that takes this turn
abbrev pub Met : {R : Type 0} → Format R → Parameters → State R → Inputs → Brought → Turn R → Type 0
Met f p c i b Disabled = Unit
Met f p c i b Started = Unit
Met f p c i b Expired = Unit
Met f p c i b Nothing = (q : TimedRequest) × Waits p c i q
Met f p c i b Ignored = (q : TimedRequest) × Waits p c i q
Met f p c i b (Fault fault) = (q : TimedRequest) × Waits p c i q
Met f p c i b (Accepted r flags) = Answers f p c i b r flags

module _ {R : Type 0} (f : Format R) (p : Parameters) (c : State R) (i : Inputs) (b : Brought) where
  met_judged : (q : TimedRequest) (m : Message) → Waits p c i q → b ≡ Some m → (v : Result (Turn R) CycleFault)
      → judged f p c.accepted q m ≡ v → Met f p c i b (turn_of v)
  met_judged q m w e (Ok Disabled) j = tt
  met_judged q m w e (Ok Started) j = tt
  met_judged q m w e (Ok Expired) j = tt
  met_judged q m w e (Ok Nothing) j = (q, w)
  met_judged q m w e (Ok Ignored) j = (q, w)
  met_judged q m w e (Ok (Fault fault)) j = (q, w)
  met_judged q m w e (Ok (Accepted r flags)) j = record { request = q; waits = w; message = m; brought = e; accepted = j }
  met_judged q m w e (Err fault) j = (q, w)

  met_brought : (q : TimedRequest) → Waits p c i q → (x : Brought) → b ≡ x → Met f p c i b (brought_turn f p c q x)
  met_brought q w None e = (q, w)
  met_brought q w (Some m) e = met_judged q m w e (judged f p c.accepted q m) refl

  met_standing : i.enable ≡ true → (q : TimedRequest) → c.standing ≡ Some q → (z : Bool) → has_expired p c i.reading q ≡ z
      → Met f p c i b (cond z Expired (brought_turn f p c q b))
  met_standing on q e true z = tt
  met_standing on q e false z = met_brought q (record { enabled = on; stands = e; lasts = z }) b refl

  met_enabled : i.enable ≡ true → (o : Option TimedRequest) → c.standing ≡ o → Met f p c i b (standing_turn f p c i.reading o b)
  met_enabled on None e = tt
  met_enabled on (Some q) e = met_standing on q e (has_expired p c i.reading q) refl

  met_if : (z : Bool) → i.enable ≡ z → Met f p c i b (cond z (standing_turn f p c i.reading c.standing b) Disabled)
  met_if true e = met_enabled e c.standing refl
  met_if false e = tt

  pub met : Met f p c i b (turn f p c i b)
  unfolding turn
  met = met_if i.enable refl

module _ {R : Type 0} {p : Parameters} {c : State R} {i : Inputs} {q : TimedRequest} (w : Waits p c i q) where
  -- such a cycle fetches
  pub waits_fetches : (before : Lanes) (b : Brought) (after : Lanes) → FetchedIf (fetches p c i) Down before b after
      → Got Down before after b
  waits_fetches before b after g = rw (w.enabled, w.stands, w.lasts) at g

  -- and its time is within the request's timeout
  pub waits_time : time_of c.time i.reading ≤ q.time + p.timeout
  waits_time =
      let age = time_of c.time i.reading - q.time in
      omega (arith, ltb-false p.timeout age (or_parts (ran_back c.time i.reading) (ltb p.timeout age) w.lasts).1)
