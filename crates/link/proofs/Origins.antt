-- Where what the lanes and the provider's memory hold comes from.
use Rattle.std.proofs.Common.{◌≡◌, ◌+◌, ◌^◌, ◌<◌, Bool, true, false, cond, eqb, ◌⊎◌, [], ◌∷◌, length, get_or, Some, None, Option, Result, sym, refl, ap, ◌∙◌, subst, inl, inr}
use mathlib.Core.List.Memᴰ
use mathlib.Core.List.{Memᴰ}
use Rattle.carrier.specs.declared.lane.Lane.TheVariants.{Up, Down}
use Rattle.message.specs.Flags.{request_flags}
use Rattle.std.proofs.lemmas.Bool.{cond_both, eqb-true}
use Rattle.link.specs.Laws.{Given, Made}
use Rattle.link.specs.Runs.{Call, CycleHappens, Happens, History, Moment, Ran, ServeHappens, Strange, consumer_at, identities_in}
use Rattle.link.specs.Runs.{lanes_at, provider_at, provider_after}
use Rattle.link.specs.Runs.Call.{cycled, cycle_refused, served, serve_refused, placed}
use Rattle.link.specs.Words.{Brought, Came, CycleAnswer, Format, Inputs, Lane, Lanes, Memory, Message, Octets, PlaceRefusal, Placed}
use Rattle.link.specs.Words.{Request, Response, ResponseFlags, ServeAnswer, ServeRefusal, Setup, State, TimedRequest}
use Rattle.link.specs.Words.{cycle, fetches, identities_of, is_again, made, new_response, number_of, remembered, reply, reply_to}
use Rattle.link.specs.Words.{request_octets, response_octets, response_to, sound, turn, u32_at}
use Rattle.link.proofs.Carries.{NoGains, fetched_gains, placed_here, placed_there, placing_here, placing_there, replied_places}
use Rattle.link.proofs.Carries.{same_gains, sent_places}
use Rattle.link.proofs.Fields.{number_small, request_number, request_small}
use Rattle.link.proofs.Requests.{accepted_from, call_step, made_small, none_some, some_is, stands_from}

-- a message on the way up: octets, and under the consumer's own number a request that it made
pub record Asked {R : Type 0} (f : Format R) (s : Setup) (h : History R) (m : Message) : Type 0 where
  pub octets : Octets m
  pub ours : length m ≡ 9 → u32_at m 0 ≡ s.parameters.consumer_id
      → (q : TimedRequest) × (m ≡ request_octets q.request) × Made f s h q

-- a response that a serve built: to the consumer's own number it answers a request that was made
pub record Built {R : Type 0} (f : Format R) (s : Setup) (h : History R) (y : Response R) : Type 0 where
  pub is_sound : f.sound y.safety_data ≡ true
  pub consumer : y.consumer_id < 2 ^ 32
  pub number : y.monitoring_number < 2 ^ 32
  pub ours : y.consumer_id ≡ s.parameters.consumer_id
      → (q : TimedRequest) × (y.monitoring_number ≡ number_of q) × Given f s h q y.safety_data

-- a message on the way down: a sound one of a response's length and with the link's identity numbers was built
abbrev pub Sourced : {R : Type 0} → Format R → Setup → History R → Message → Type 0
Sourced {R} f s h m =
    sound m ≡ true → length m ≡ f.len + 25 → identities_in f.len m ≡ identities_of f s.parameters
    → (y : Response R) × (m ≡ response_octets f s.parameters y) × Built f s h y

-- what is known of a consumer, a provider's memory and lanes after a history
pub record Known {R : Type 0} (f : Format R) (s : Setup) (h : History R) (c : State R) (p : Memory R) (l : Lanes) : Type 0 where
  pub standing : (q : TimedRequest) → c.standing ≡ Some q → Made f s h q
  pub accepted : (q : TimedRequest) → c.accepted ≡ Some q → Made f s h q
  pub up : (m : Message) → Memᴰ m l.up → Asked f s h m
  pub down : (m : Message) → Memᴰ m l.down → Sourced f s h m
  pub memory : (y : Response R) → p ≡ Some y → Built f s h y

-- what a call adds to the lanes and to the memory
record Adds {R : Type 0} (f : Format R) (s : Setup) (p : Memory R) (l : Lanes) (x : Moment R) (h : History R) : Type 0 where
  up : (m : Message) → Memᴰ m x.lanes.up → Memᴰ m l.up ⊎ Asked f s (x ∷ h) m
  down : (m : Message) → Memᴰ m x.lanes.down → Memᴰ m l.down ⊎ Sourced f s (x ∷ h) m
  memory : (y : Response R) → provider_after f p x.call ≡ Some y → (p ≡ Some y) ⊎ Built f s (x ∷ h) y

-- what is remembered was sent now or remembered before
remembered_from : {R : Type 0} (P : Response R → Type 0) (p : Memory R) (o : Option (Response R)) → ((y : Response R) → o ≡ Some y → P y)
    → (y : Response R) → remembered p o ≡ Some y → (p ≡ Some y) ⊎ P y
remembered_from P p None sent y e = inl e
remembered_from P p (Some x) sent y e = inr (sent y e)

module _ {R : Type 0} {f : Format R} {s : Setup} where
  -- what is known stays known
  asked_on : (x : Moment R) {h : History R} {m : Message} → Asked f s h m → Asked f s (x ∷ h) m
  asked_on x k = record { octets = k.octets; ours = λ nine e. let (q, is, made) = k.ours nine e in (q, is, inr made) }

  built_on : (x : Moment R) {h : History R} {y : Response R} → Built f s h y → Built f s (x ∷ h) y
  built_on x k = record {
    is_sound = k.is_sound;
    consumer = k.consumer;
    number = k.number;
    ours = λ e. let (q, is, given) = k.ours e in (q, is, inr given);
  }

  known_on : (x : Moment R) {h : History R} {l : Lanes} → Known f s h (consumer_at f s h) (provider_at f h) l
      → Adds f s (provider_at f h) l x h → Known f s (x ∷ h) (consumer_at f s (x ∷ h)) (provider_at f (x ∷ h)) x.lanes
  known_on x {h} k a =
      let step = call_step f s (consumer_at f s h) x.call in
      record {
        standing = λ q e. elim (stands_from step q e) [ inl i ↦ inl i | inr i ↦ inr (k.standing q i) ];
        accepted = λ q e. inr (elim (accepted_from step q e) [ inl i ↦ k.accepted q i | inr i ↦ k.standing q i ]);
        up = λ m e. elim (a.up m e) [ inl i ↦ asked_on x (k.up m i) | inr i ↦ i ];
        down = λ m e sound long ids. elim (a.down m e) [
          | inl i ↦ (let (y, is, built) = k.down m i sound long ids in (y, is, built_on x built))
          | inr i ↦ i sound long ids
        ];
        memory = λ y e. elim (a.memory y e) [ inl i ↦ built_on x (k.memory y i) | inr i ↦ i ];
      }

  -- lanes that gain nothing, and a memory that stays
  nothing_adds : (x : Moment R) (h : History R) {p : Memory R} {l : Lanes} → NoGains l x.lanes → provider_after f p x.call ≡ p
      → Adds f s p l x h
  nothing_adds x h g e = record {
    up = λ m i. inl (g.up m i);
    down = λ m i. inl (g.down m i);
    memory = λ y i. inl (sym e ∙ i);
  }

  -- a cycle adds the request that it made
  cycle_adds : (h : History R) {p : Memory R} {l after : Lanes} {i : Inputs} {b : Brought} {taken : Bool} {o : CycleAnswer R}
      → CycleHappens f s (consumer_at f s h) l i b taken o after → Adds f s p l (record { call = cycled i b taken o; lanes = after }) h
  cycle_adds h {l = l} {after = after} {i = i} {b = b} {taken = taken} g =
      let c = consumer_at f s h in
      let mid = g.between in
      let gains = fetched_gains (fetches s.parameters c i) Down l b mid g.fetched in
      let sent = sent_places mid (made (turn f s.parameters c i b) (cycle f s.parameters c i b)) taken after g.sent in
      record {
        up = λ m e. elim (placing_here sent m e) [
          | inl j ↦ inl (gains.up m j)
          | inr (q, e, is) ↦ inr (record { octets = rw is (request_small q.request); ours = λ _ _. (q, is, inl e) })
        ];
        down = λ m e. inl (gains.down m (placing_there sent m e));
        memory = λ y e. inl e;
      }

  -- a serve adds a response that was built
  module _ {h : History R} {c : State R} {p : Memory R} {l after : Lanes} {r : R} {flags : ResponseFlags} {b : Brought} {taken : Bool}
      {x : Result ServeAnswer ServeRefusal} (k : Known f s h c p l) (g : ServeHappens f s p l r flags b taken x after) where
    abbrev this : Moment R
    this = record { call = served r flags b taken x; lanes = after }

    abbrev read_from : Message → Request
    read_from m = record { consumer_id = u32_at m 0; monitoring_number = u32_at m 4; flags = request_flags (get_or m 8 0) }

    -- anew: to the consumer's own number it answers a request that was made
    new_built : (m : Message) → b ≡ Some m → length m ≡ 9 → Asked f s h m → Built f s (this ∷ h) (new_response r flags (read_from m))
    new_built m e nine asked = record {
      is_sound = g.is_sound;
      consumer = number_small m 0 asked.octets;
      number = number_small m 4 asked.octets;
      ours = λ ours.
          let (q, is, made) = asked.ours nine ours in
          (q, ap (λ z. u32_at z 4) is ∙ request_number q.request (made_small f s h q made), inl ((refl, e ∙ ap Some is), made));
    }

    -- or before, where it goes out again
    response_built : (m : Message) → b ≡ Some m → length m ≡ 9 → Asked f s h m → (o : Memory R) → p ≡ o
        → Built f s (this ∷ h) (response_to f o r flags (read_from m))
    response_built m e nine asked None j = new_built m e nine asked
    response_built m e nine asked (Some last) j =
        cond_both (is_again f (Some last) (read_from m)) last (new_response r flags (read_from m)) (Built f s (this ∷ h))
        (λ _. built_on this (k.memory last j)) (λ _. new_built m e nine asked)

    read_built : (m : Message) → b ≡ Some m → Asked f s h m → (z : Bool) → eqb (length m) 9 ≡ z → (y : Response R)
        → reply_to f p r flags (cond z (Some (read_from m)) None) ≡ Some y → Built f s (this ∷ h) y
    read_built m e asked true z y is = subst (Built f s (this ∷ h)) (some_is is) (response_built m e (eqb-true (length m) 9 z) asked p refl)
    read_built m e asked false z y is = absurd (none_some is)

    held : (m : Message) → b ≡ Some m → Memᴰ m l.up
    held m e = elim (subst (Came Up l) e g.fetched.came).2 [ inl i ↦ i | inr i ↦ absurd i ]

    reply_built : (o : Brought) → b ≡ o → (y : Response R) → reply f p r flags o ≡ Some y → Built f s (this ∷ h) y
    reply_built None e y is = absurd (none_some is)
    reply_built (Some m) e y is = read_built m e (k.up m (held m e)) (eqb (length m) 9) refl y is

    serve_adds : Adds f s p l this h
    serve_adds =
        let sent = replied_places f s.parameters g.between (reply f p r flags b) taken after g.replied in
        record {
          up = λ m e. inl (g.fetched.up m (placing_there sent m e));
          down = λ m e. elim (placing_here sent m e) [
            | inl j ↦ inl (g.fetched.down m j)
            | inr (y, e, is) ↦ inr (λ _ _ _. (y, is, reply_built b refl y e))
          ];
          memory = remembered_from (Built f s (this ∷ h)) p (reply f p r flags b) (reply_built b refl);
        }

  -- a stranger adds what is not the consumer's own
  place_adds : (h : History R) {p : Memory R} {l after : Lanes} (way : Lane) {m : Message} {x : Result Unit PlaceRefusal}
      → Strange f s.parameters way m → Placed way m l after x → Adds f s p l (record { call = placed way m x; lanes = after }) h
  place_adds h Up strange g = record {
    up = λ y e. elim (placed_here g y e) [
      | inl j ↦ inl j
      | inr is ↦ inr (rw is (record { octets = strange.0; ours = λ nine e. absurd (strange.1 nine e) }))
    ];
    down = λ y e. inl (placed_there g y e);
    memory = λ y e. inl e;
  }
  place_adds h Down strange g = record {
    up = λ y e. inl (placed_there g y e);
    down = λ y e. elim (placed_here g y e) [
      | inl j ↦ inl j
      | inr is ↦ inr (rw is (λ sound long ids. absurd (strange.1 sound long ids)))
    ];
    memory = λ y e. inl e;
  }

  call_adds : (h : History R) (l after : Lanes) (x : Call R) → Known f s h (consumer_at f s h) (provider_at f h) l
      → Happens f s (consumer_at f s h) (provider_at f h) l x after → Adds f s (provider_at f h) l (record { call = x; lanes = after }) h
  call_adds h l after (cycled i b taken o) k g = cycle_adds h g
  call_adds h l after (cycle_refused i) k g = nothing_adds _ h (same_gains g) refl
  call_adds h l after (served r flags b taken x) k g = serve_adds k g
  call_adds h l after (serve_refused r flags x) k g = nothing_adds _ h (same_gains g.1) refl
  call_adds h l after (placed way m x) k g = place_adds h way g.0 g.1

module _ {R : Type 0} (f : Format R) (s : Setup) (first : Lanes) where
  pub known : (h : History R) → Ran f s first h → Known f s h (consumer_at f s h) (provider_at f h) (lanes_at first h)
  known [] (up, down, slots) = record {
    standing = λ q e. none_some e;
    accepted = λ q e. none_some e;
    up = λ m e. absurd (Memᴰ.not-nil (rw up at e));
    down = λ m e. absurd (Memᴰ.not-nil (rw down at e));
    memory = λ y e. absurd (none_some e);
  }
  known (x ∷ h) (ran, happens) =
      let k = known h ran in
      known_on x k (call_adds h (lanes_at first h) x.lanes x.call k happens)
