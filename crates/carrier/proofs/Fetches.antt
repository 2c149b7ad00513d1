-- What the answer of a fetch tells its caller.
use Rattle.std.proofs.Common.{◌≡◌, ℕ, ◌-◌, Bool, true, false, ltb, List, length, take, drop, Some, None, Ok, refl, ap, ◌∙◌, arith}
use Rattle.std.proofs.lemmas.List.{take_at}
use Rattle.carrier.specs.declared.lane.Lane.{Lane}
use Rattle.carrier.specs.Fetch.{Fetched, FetchedSo, Got, Brought, brought_in}
use Rattle.carrier.specs.Lanes.{Message, Lanes}
use Rattle.message.specs.Response.{longest}

-- a message came: the lanes, its length, and the buffer then
pub record GotSome (l : Lane) (before after : Lanes) (buffer buffer' : List ℕ) (n : ℕ) : Type 0 where
  pub message : Message
  pub got : Got l before after (Some message)
  pub long : n ≡ length message
  pub leaves : buffer' ≡ brought_in (Some message) buffer

module _ (l : Lane) (before after : Lanes) (buffer buffer' : List ℕ) (n : ℕ) where
  some_so : (b : Brought) → FetchedSo l before after buffer buffer' (Ok (Some n)) b → GotSome l before after buffer buffer' n
  some_so (Some m) f = let e = f.answers in record { message = m; got = f.got; long = cc; leaves = f.leaves }
  some_so None f = let e = f.answers in let z : ◌≡◌ {A = ℕ} 0 1 = cc in absurd (omega arith)

  some_by : (short : Bool) → ltb (length buffer) longest ≡ short → Fetched l before after buffer buffer' (Ok (Some n))
      → GotSome l before after buffer buffer' n
  some_by false e f = let so = f.fetched e in some_so so.0 so.1
  some_by true e f = let w = (f.refused e).0 in let z : ◌≡◌ {A = ℕ} 0 1 = cc in absurd (omega arith)

  pub fetched_some : Fetched l before after buffer buffer' (Ok (Some n)) → GotSome l before after buffer buffer' n
  fetched_some f = some_by (ltb (length buffer) longest) refl f

module _ (l : Lane) (before after : Lanes) (buffer buffer' : List ℕ) where
  none_so : (b : Brought) → FetchedSo l before after buffer buffer' (Ok None) b → Got l before after None × (buffer' ≡ buffer)
  none_so None f = (f.got, f.leaves)
  none_so (Some m) f = let e = f.answers in let z : ◌≡◌ {A = ℕ} 0 1 = cc in absurd (omega arith)

  none_by : (short : Bool) → ltb (length buffer) longest ≡ short → Fetched l before after buffer buffer' (Ok None)
      → Got l before after None × (buffer' ≡ buffer)
  none_by false e f = let so = f.fetched e in none_so so.0 so.1
  none_by true e f = let w = (f.refused e).0 in let z : ◌≡◌ {A = ℕ} 0 1 = cc in absurd (omega arith)

  -- none came: the lanes, and the buffer as it was
  pub fetched_none : Fetched l before after buffer buffer' (Ok None) → Got l before after None × (buffer' ≡ buffer)
  fetched_none f = none_by (ltb (length buffer) longest) refl f

-- the octets up to the answered length are the message
pub fetched_octets : (m s t : List ℕ) (n : ℕ) → n ≡ length m → t ≡ brought_in (Some m) s → take (n - 0) t ≡ m
fetched_octets m s t n e w = ap (take (n - 0)) w ∙ take_at m (drop (length m) s) (n - 0) (omega arith)
