-- A new request is answered with the record just given, and that response is accepted.
use Rattle.std.proofs.Common.{◌≡◌, ◌+◌, ◌^◌, ◌<◌, ◌≤◌, Bool, true, false, eqb, leb, [], ◌∷◌, length, Some, None, Ok, Option, Result, sym, refl, ap, ◌∙◌, inl, inr, arith}
use Rattle.carrier.specs.declared.lane.Lane.TheVariants.{Up, Down}
use Rattle.consumer.specs.declared.event.Turn.TheVariants.{Accepted}
use Rattle.message.proofs.ReadBack.{checked_is, long, number_is, record_is}
use Rattle.std.proofs.lemmas.Bool.{and_from, and_parts, cases_Bool, cond-false, eq-eqb, eqb-true, le-leb}
use Rattle.link.specs.Laws.{Made}
use Rattle.link.specs.Runs.{History, ServeHappens, place_answer}
use Rattle.link.specs.Words.{Brought, Format, Lanes, Lawful, Memory, Message, Parameters, Placed, Request, Response, ResponseFlags}
use Rattle.link.specs.Words.{ServeAnswer, ServeRefusal, Setup, TimedRequest}
use Rattle.link.specs.Words.{accepted_before, is_again, longest, new_response, number_of, reply, request_octets, response_octets}
use Rattle.link.specs.Words.{response_of, response_to, sendable, judged}
use Rattle.link.proofs.Carries.{placed_fixed}
use Rattle.link.proofs.Fields.{not_zero, request_consumer, request_number}
use Rattle.link.proofs.Origins.{Built}
use Rattle.link.proofs.Requests.{given_made}
use Rattle.link.proofs.Steady.{Firm, Free, fetched_alone, firm_on, free_on, placed_alone}
use Rattle.link.proofs.Verdicts.{passed_accepted}

-- the response with this record and these flags to a request of the consumer
abbrev pub response_for : {R : Type 0} → Parameters → TimedRequest → R → ResponseFlags → Response R
response_for p q r flags = response_of r flags p.consumer_id (number_of q)

module _ {R : Type 0} {f : Format R} (laws : Lawful f) (p : Parameters) (q : TimedRequest) (small : number_of q < 2 ^ 32)
    {r : R} (is_sound : f.sound r ≡ true) (flags : ResponseFlags) where
  abbrev response : Response R
  response = response_for p q r flags

  abbrev message : Message
  message = response_octets f p response

  -- it has a lawful length
  response_sendable : sendable message ≡ true
  response_sendable =
      let e = long f laws p response is_sound p.consumer_fits small message refl in
      let some = le-leb 1 (length message) (omega arith) in
      and_from (leb 1 (length message)) (leb (length message) longest) some (le-leb (length message) longest (omega (arith, laws.few)))

  -- and is accepted, unless it bears the last accepted number
  pub response_accepted : 256 ≤ number_of q → (last : Option TimedRequest) → accepted_before last (number_of q) ≡ false
      → judged f p last q message ≡ Ok (Accepted r flags)
  response_accepted large last new =
      let fits = p.consumer_fits in
      let number = number_is f laws p response is_sound fits small message refl in
      let passed = checked_is f laws p response is_sound fits small message refl in
      passed_accepted laws p last q message r flags (not_zero message (f.len + 17) (omega arith)) new
      (passed ∙ rw (eq-eqb p.consumer_id p.consumer_id refl))
      (record_is f laws p response is_sound fits small message refl)

-- a serve answers a request that is new with the record and the flags given to it
module _ {R : Type 0} {f : Format R} (laws : Lawful f) {s : Setup} {h : History R} {memory : Memory R} {l after : Lanes} {r : R}
    {flags : ResponseFlags} {b : Brought} {taken : Bool} {x : Result ServeAnswer ServeRefusal}
    (g : ServeHappens f s memory l r flags b taken x after) (built : (y : Response R) → memory ≡ Some y → Built f s h y)
    (q : TimedRequest) (ours : q.request.consumer_id ≡ s.parameters.consumer_id) (small : number_of q < 2 ^ 32)
    (new : (q' : TimedRequest) → Made f s h q' → number_of q' ≡ number_of q → ⊥) where
  abbrev wanted : Response R
  wanted = response_for s.parameters q r flags

  not_again : (a : Request) → a.consumer_id ≡ s.parameters.consumer_id → a.monitoring_number ≡ number_of q → (last : Response R)
      → memory ≡ Some last → is_again f (Some last) a ≡ false
  not_again a consumer number last e = elim (cases_Bool (is_again f (Some last) a)) [
    | inl again ↦ absurd (
        let same = (and_parts (f.sound last.safety_data) _ again).1 in
        let (same_consumer, same_number) = and_parts (eqb last.consumer_id a.consumer_id) _ same in
        let (q', is, given) = (built last e).ours (eqb-true last.consumer_id a.consumer_id same_consumer ∙ consumer) in
        let last_number = eqb-true last.monitoring_number a.monitoring_number same_number in
        new q' (given_made f s h q' last.safety_data given) (sym is ∙ last_number ∙ number)
        )
    | inr differs ↦ differs
  ]

  response_new : (a : Request) → a.consumer_id ≡ s.parameters.consumer_id → a.monitoring_number ≡ number_of q → (o : Memory R)
      → memory ≡ o → response_to f o r flags a ≡ wanted
  response_new a consumer number None e = rw (consumer, number)
  response_new a consumer number (Some last) e =
      cond-false (is_again f (Some last) a) last (new_response r flags a) (not_again a consumer number last e) ∙ rw (consumer, number)

  reply_new : reply f memory r flags (Some (request_octets q.request)) ≡ Some wanted
  reply_new =
      let fits : q.request.consumer_id < 2 ^ 32 = rw ours s.parameters.consumer_fits in
      ap Some (response_new _ (request_consumer q.request fits ∙ ours) (request_number q.request small) memory refl)

  pub serve_replies : Firm l → l.up ≡ request_octets q.request ∷ [] → Free Down l
      → Free Up after × (after.down ≡ response_octets f s.parameters wanted ∷ [])
  serve_replies firm up down =
      let fixed = g.fetched.fixed in
      let (brought, free, same) = fetched_alone Up firm up g.fetched in
      let put : Placed Down (response_octets f s.parameters wanted) g.between after (place_answer taken) =
      rw (ap (reply f memory r flags) brought ∙ reply_new) at g.replied in
      let fits = response_sendable laws s.parameters q small g.is_sound flags in
      let (this, that) = placed_alone Down fits (firm_on fixed firm) (free_on Down fixed same down) put in
      (free_on Up (placed_fixed put) that free, this)
