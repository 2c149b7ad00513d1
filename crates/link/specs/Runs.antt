-- Histories: what can happen on a link, call after call.
use Rattle.std.specs.Prelude.{◌≡◌, ℕ, ◌+◌, Bool, true, false, ◌⊎◌, List, [], ◌∷◌, length, None, Result, ◌≢◌}
use Rattle.carrier.specs.declared.lane.Lane.TheVariants.{Up, Down}
use Rattle.provider.specs.declared.answer.ServeRefusal.TheVariants.{ShortBuffer, UnsoundRecord}
use Rattle.link.specs.Words.{Lane, PlaceRefusal, Brought, Got, Message, Lanes, HasSlots, Placed}
use Rattle.link.specs.Words.{CycleAnswer, Setup, State, Inputs, fresh, turn, fetches, cycle, made, answer_of}
use Rattle.link.specs.Words.{ResponseFlags, Identities, Parameters, identities_of, sound, u32_at}
use Rattle.link.specs.Words.{ServeAnswer, ServeRefusal, Memory, reply, remembered, told}
use Rattle.link.specs.Words.{Format, Octets}
pub use Rattle.carrier.specs.Place.{place_answer}
pub use Rattle.consumer.specs.Cycled.{FetchedIf, Sent}
pub use Rattle.provider.specs.Served.{Replied}

-- one call, with its arguments, what its fetch brought, whether what it placed was taken, and its answer
pub data Call (R : Type 0) : Type 0 where
  -- a cycle of the consumer
  cycled : Inputs → Brought → Bool → CycleAnswer R → Call R
  -- a cycle refused for a short buffer (7): it counts as no cycle
  cycle_refused : Inputs → Call R
  -- a serve of the provider, given a record and flags; its answer may be that the message was no request (11) or full (10)
  served : R → ResponseFlags → Brought → Bool → Result ServeAnswer ServeRefusal → Call R
  -- a serve refused for a short buffer (7) or an unsound record (8), before it fetches
  serve_refused : R → ResponseFlags → ServeRefusal → Call R
  -- a stranger places a message on a lane: taken, full (10), or of no lawful length (9)
  placed : Lane → Message → Result Unit PlaceRefusal → Call R

-- a call, and the lanes that it left
pub record Moment (R : Type 0) : Type 0 where
  pub call : Call R
  pub lanes : Lanes

-- a history: what happened, the newest first
abbrev pub History : Type 0 → Type 0
History R = List (Moment R)

-- the lanes, the consumer and the provider's memory after a history
abbrev pub lanes_at : {R : Type 0} → Lanes → History R → Lanes
lanes_at first [] = first
lanes_at first (m ∷ h) = m.lanes

abbrev pub consumer_after : {R : Type 0} → Format R → Setup → State R → Call R → State R
consumer_after f s c (cycled i b taken o) = cycle f s.parameters c i b
consumer_after f s c (cycle_refused i) = c
consumer_after f s c (served r flags b taken x) = c
consumer_after f s c (serve_refused r flags x) = c
consumer_after f s c (placed l m x) = c

abbrev pub consumer_at : {R : Type 0} → Format R → Setup → History R → State R
consumer_at f s [] = fresh f s
consumer_at f s (m ∷ h) = consumer_after f s (consumer_at f s h) m.call

abbrev pub provider_after : {R : Type 0} → Format R → Memory R → Call R → Memory R
provider_after f p (cycled i b taken o) = p
provider_after f p (cycle_refused i) = p
provider_after f p (served r flags b taken x) = remembered p (reply f p r flags b)
provider_after f p (serve_refused r flags x) = p
provider_after f p (placed l m x) = p

abbrev pub provider_at : {R : Type 0} → Format R → History R → Memory R
provider_at f [] = None
provider_at f (m ∷ h) = provider_after f (provider_at f h) m.call

-- the identity numbers that stand in a message of a kind with records of n octets
abbrev pub identities_in : ℕ → Message → Identities
identities_in n m = record { first = u32_at m (n + 1); second = u32_at m (n + 5); third = u32_at m (n + 9) }

-- the rule that strangers keep: a message is octets; on the up lane one of nine octets bears another consumer number; on
-- the down lane a sound one of a response's length differs from the link's in an identity number. All else is free
abbrev pub Strange : {R : Type 0} → Format R → Parameters → Lane → Message → Type 0
Strange f p Up m = Octets m × (length m ≡ 9 → u32_at m 0 ≢ p.consumer_id)
Strange f p Down m =
    Octets m × (sound m ≡ true → length m ≡ f.len + 25 → identities_in f.len m ≢ identities_of f p)

-- a cycle: at most one fetch, then the request that it made; `between` are the lanes between the two
pub record CycleHappens {R : Type 0} (f : Format R) (s : Setup) (c : State R) (before : Lanes) (i : Inputs) (b : Brought) (taken : Bool)
    (o : CycleAnswer R) (after : Lanes) : Type 0 where
  pub between : Lanes
  pub fetched : FetchedIf (fetches s.parameters c i) Down before b between
  pub sent : Sent between (made (turn f s.parameters c i b) (cycle f s.parameters c i b)) taken after
  pub answer : o ≡ answer_of (turn f s.parameters c i b) (cycle f s.parameters c i b)

-- a serve of a sound record: one fetch, then the response
pub record ServeHappens {R : Type 0} (f : Format R) (s : Setup) (p : Memory R) (before : Lanes) (r : R) (flags : ResponseFlags) (b : Brought)
    (taken : Bool) (x : Result ServeAnswer ServeRefusal) (after : Lanes) : Type 0 where
  pub is_sound : f.sound r ≡ true
  pub between : Lanes
  pub fetched : Got Up before between b
  pub replied : Replied f s.parameters between (reply f p r flags b) taken after
  pub answer : x ≡ told f p b taken

-- a call can happen to this consumer and provider over these lanes, and leaves those
abbrev pub Happens : {R : Type 0} → Format R → Setup → State R → Memory R → Lanes → Call R → Lanes → Type 0
Happens f s c p before (cycled i b taken o) after = CycleHappens f s c before i b taken o after
Happens f s c p before (cycle_refused i) after = after ≡ before
Happens f s c p before (served r flags b taken x) after = ServeHappens f s p before r flags b taken x after
Happens f s c p before (serve_refused r flags x) after =
    ((x ≡ ShortBuffer) ⊎ ((x ≡ UnsoundRecord) × (f.sound r ≡ false))) × (after ≡ before)
Happens f s c p before (placed l m x) after = Strange f s.parameters l m × Placed l m before after x

-- a history that can happen from the making of a link over a carrier with empty lanes
abbrev pub Ran : {R : Type 0} → Format R → Setup → Lanes → History R → Type 0
Ran f s first [] = (first.up ≡ []) × (first.down ≡ []) × HasSlots first
Ran f s first (m ∷ h) =
    Ran f s first h × Happens f s (consumer_at f s h) (provider_at f h) (lanes_at first h) m.call m.lanes
