-- The requests of a consumer: what each call does to them, and that no two have the same number.
use Rattle.std.proofs.Common.{◌≡◌, ℕ, ◌+◌, ◌-◌, ◌%◌, ◌^◌, ◌<◌, ◌≤◌, Bool, eqb, ◌⊎◌, [], ◌∷◌, Some, None, Option, sym, refl, ap, ◌∙◌, subst, inl, inr, arith}
use Rattle.consumer.specs.declared.event.Turn.TheVariants.{Disabled, Started, Expired, Nothing, Ignored, Fault, Accepted}
use Rattle.std.proofs.lemmas.Bool.{cond_both, eqb-true, eqb-false}
use Rattle.link.specs.Laws.{Given, Made, made_by, count_of, requests, most_requests}
use Rattle.link.specs.Runs.{Call, Moment, History, consumer_at, consumer_after}
use Rattle.link.specs.Runs.Call.{cycled, cycle_refused, served, serve_refused, placed}
use Rattle.link.specs.Words.{Format, Parameters, Setup, State, TimedRequest, Turn}
use Rattle.link.specs.Words.{after_turn, is_edge, made, next_number, number_of, time_of, turn}

pub some_is : {A : Type 0} {x y : A} → Some x ≡ Some y → x ≡ y
some_is e = cc

pub none_some : {A : Type 0} {x : A} → None ≡ Some x → ⊥
none_some e = let z : ◌≡◌ {A = ℕ} 0 1 = cc in omega arith

-- a request with the consumer's own number and its next monitoring number
pub record Next {R : Type 0} (p : Parameters) (c : State R) (q : TimedRequest) : Type 0 where
  pub consumer : q.request.consumer_id ≡ p.consumer_id
  pub number : number_of q ≡ c.next_number

-- what becomes of a consumer's requests: the one made, the next number, the standing one and the last accepted one
pub data Step {R : Type 0} (p : Parameters) (c : State R)
    : Option TimedRequest → ℕ → Option TimedRequest → Option TimedRequest → Type 0 where
  asks : {q : TimedRequest} → Next p c q → Step p c (Some q) (next_number c.next_number) (Some q) c.accepted
  accepts : {q : TimedRequest} → Next p c q → Step p c (Some q) (next_number c.next_number) (Some q) c.standing
  keeps : Step p c None c.next_number c.standing c.accepted
  withdraws : Step p c None c.next_number None c.accepted

turn_step : {R : Type 0} (f : Format R) (p : Parameters) (c : State R) (time : ℕ) (ack edge : Bool) (t : Turn R)
    → let after = after_turn f p c time ack edge t in Step p c (made t after) after.next_number after.standing after.accepted
turn_step f p c time ack edge Disabled = withdraws
turn_step f p c time ack edge Started = asks (record { consumer = refl; number = refl })
turn_step f p c time ack edge Expired = asks (record { consumer = refl; number = refl })
turn_step f p c time ack edge Nothing = keeps
turn_step f p c time ack edge Ignored = keeps
turn_step f p c time ack edge (Fault fault) = keeps
turn_step f p c time ack edge (Accepted r flags) = accepts (record { consumer = refl; number = refl })

pub call_step : {R : Type 0} (f : Format R) (s : Setup) (c : State R) (x : Call R)
    → let after = consumer_after f s c x in
    Step s.parameters c (made_by f s c x) after.next_number after.standing after.accepted
call_step f s c (cycled i b taken o) =
    turn_step f s.parameters c (time_of c.time i.reading) i.ack (is_edge c i.ack) (turn f s.parameters c i b)
call_step f s c (cycle_refused i) = keeps
call_step f s c (served r flags b taken x) = keeps
call_step f s c (serve_refused r flags x) = keeps
call_step f s c (placed l m x) = keeps

module _ {R : Type 0} {p : Parameters} {c : State R} where
  made_next : {m : Option TimedRequest} {n : ℕ} {st last : Option TimedRequest} → Step p c m n st last
      → (q : TimedRequest) → m ≡ Some q → Next p c q
  made_next (asks x) q e = subst (Next p c) (some_is e) x
  made_next (accepts x) q e = subst (Next p c) (some_is e) x
  made_next keeps q e = absurd (none_some e)
  made_next withdraws q e = absurd (none_some e)

  -- what stands after stood before or is new
  pub stands_from : {m : Option TimedRequest} {n : ℕ} {st last : Option TimedRequest} → Step p c m n st last
      → (q : TimedRequest) → st ≡ Some q → (m ≡ Some q) ⊎ (c.standing ≡ Some q)
  stands_from (asks x) q e = inl e
  stands_from (accepts x) q e = inl e
  stands_from keeps q e = inr e
  stands_from withdraws q e = absurd (none_some e)

  -- what was accepted last was so before, or stood
  pub accepted_from : {m : Option TimedRequest} {n : ℕ} {st last : Option TimedRequest} → Step p c m n st last
      → (q : TimedRequest) → last ≡ Some q → (c.accepted ≡ Some q) ⊎ (c.standing ≡ Some q)
  accepted_from (asks x) q e = inl e
  accepted_from (accepts x) q e = inr e
  accepted_from keeps q e = inl e
  accepted_from withdraws q e = inl e

-- the number of the request that was made after k others
abbrev pub nth : Setup → ℕ → ℕ
nth s k = 256 + (s.start.value - 256 + k) % 4294967040

nth_next : (x : ℕ) → next_number (256 + x % 4294967040) ≡ 256 + (x + 1) % 4294967040
nth_next x =
    cond_both (eqb (256 + x % 4294967040) 4294967295) 256 (256 + x % 4294967040 + 1) (λ y. y ≡ 256 + (x + 1) % 4294967040)
    (λ e. let k = eqb-true (256 + x % 4294967040) 4294967295 e in omega arith)
    (λ e. let k = eqb-false (256 + x % 4294967040) 4294967295 e in omega arith)

nth_differ : (s : Setup) (i k : ℕ) → i < k → k < most_requests → nth s i ≡ nth s k → ⊥
nth_differ s i k l m e = omega arith

step_nth : {R : Type 0} (s : Setup) {p : Parameters} {c : State R} {m : Option TimedRequest} {n : ℕ} {st last : Option TimedRequest}
    → Step p c m n st last → (k : ℕ) → c.next_number ≡ nth s k → n ≡ nth s (count_of m + k)
step_nth s (asks x) k e = ap next_number e ∙ nth_next _ ∙ omega arith
step_nth s (accepts x) k e = ap next_number e ∙ nth_next _ ∙ omega arith
step_nth s keeps k e = e ∙ omega arith
step_nth s withdraws k e = e ∙ omega arith

-- a request that was made after so many others, fewer than all
pub record Numbered (s : Setup) (all : ℕ) (q : TimedRequest) : Type 0 where
  pub place : ℕ
  pub within : place < all
  pub consumer : q.request.consumer_id ≡ s.parameters.consumer_id
  pub number : number_of q ≡ nth s place

module _ {R : Type 0} (f : Format R) (s : Setup) where
  next_nth : (h : History R) → (consumer_at f s h).next_number ≡ nth s (requests f s h)
  next_nth [] = omega arith
  next_nth (m ∷ h) = step_nth s (call_step f s (consumer_at f s h) m.call) (requests f s h) (next_nth h)

  newest : (m : Moment R) (h : History R) (q : TimedRequest) → made_by f s (consumer_at f s h) m.call ≡ Some q
      → Numbered s (requests f s (m ∷ h)) q
  newest m h q e =
      let x = made_next (call_step f s (consumer_at f s h) m.call) q e in
      let one = ap count_of e in
      record { place = requests f s h; within = omega arith; consumer = x.consumer; number = x.number ∙ next_nth h }

  pub made_numbered : (h : History R) (q : TimedRequest) → Made f s h q → Numbered s (requests f s h) q
  made_numbered [] q e = absurd e
  made_numbered (m ∷ h) q (inl e) = newest m h q e
  made_numbered (m ∷ h) q (inr e) =
      let x = made_numbered h q e in record { place = x.place; within = omega arith; consumer = x.consumer; number = x.number }

  pub made_small : (h : History R) (q : TimedRequest) → Made f s h q → number_of q < 2 ^ 32
  made_small h q e = let x = made_numbered h q e in omega arith

  pub made_large : (h : History R) (q : TimedRequest) → Made f s h q → 256 ≤ number_of q
  made_large h q e = let x = made_numbered h q e in omega arith

  -- a new request has a new number
  pub new_number : (m : Moment R) (h : History R) (q q' : TimedRequest) → requests f s (m ∷ h) ≤ most_requests
      → made_by f s (consumer_at f s h) m.call ≡ Some q → Made f s h q' → number_of q' ≡ number_of q → ⊥
  unfolding newest
  new_number m h q q' few e e' same =
      let x = newest m h q e in
      let x' = made_numbered h q' e' in
      let one = ap count_of e in
      nth_differ s x'.place (requests f s h) x'.within (omega arith) (sym x'.number ∙ same ∙ x.number)

  -- a request is known by its number
  pub made_once : (h : History R) (q q' : TimedRequest) → requests f s h ≤ most_requests → Made f s h q → Made f s h q'
      → number_of q ≡ number_of q' → q ≡ q'
  made_once [] q q' few e e' same = absurd e
  made_once (m ∷ h) q q' few (inl e) (inl e') same = some_is (sym e ∙ e')
  made_once (m ∷ h) q q' few (inl e) (inr e') same = absurd (new_number m h q q' few e e' (sym same))
  made_once (m ∷ h) q q' few (inr e) (inl e') same = absurd (new_number m h q' q few e' e same)
  made_once (m ∷ h) q q' few (inr e) (inr e') same = made_once h q q' (omega arith) e e' same

  -- what answers a request was given after the request was made
  pub given_made : (h : History R) (q : TimedRequest) (r : R) → Given f s h q r → Made f s h q
  given_made [] q r g = absurd g
  given_made (m ∷ h) q r (inl g) = inr g.1
  given_made (m ∷ h) q r (inr g) = inr (given_made h q r g)
