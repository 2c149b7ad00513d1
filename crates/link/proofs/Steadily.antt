-- Over a steady carrier every cycle, serve and stranger's place can happen.
use Rattle.std.proofs.Common.{◌≡◌, Bool, true, false, cond, not, ◌∷◌, Some, None, Ok, Err, Option, refl}
use Rattle.carrier.proofs.Steady.{Lengthy, steady_placed, steady_got}
use Rattle.carrier.specs.declared.lane.Lane.TheVariants.{Up, Down}
use Rattle.carrier.specs.declared.lane.PlaceRefusal.TheVariants.{Full}
use Rattle.link.specs.Examples.{fetching, cycle_brings, cycle_between, cycle_moment, serve_moment, place_moment, taken_if, placed_if, octets_if, response_if}
use Rattle.link.specs.Runs.{History, Ran, FetchedIf, Sent, Replied, Strange, consumer_at, provider_at, lanes_at, place_answer}
use Rattle.link.specs.Words.{Lane, Message, Lanes, first_of, steady_fetch, full, steady_place, steady_answer, sendable}
use Rattle.link.specs.Words.{Setup, TimedRequest, Inputs, turn, cycle, made, ResponseFlags, Response, Format, request_octets, response_octets, reply}

fetches_if : (b : Bool) (k : Lanes) → Lengthy (first_of k.down)
    → FetchedIf b Down k (cond b (first_of k.down) None) (cond b (steady_fetch Down k) k)
fetches_if true k h = steady_got k Down (steady_fetch Down k) h refl
fetches_if false k h = (refl, refl)

answers : (l : Lane) (k : Lanes) (b : Bool) → full l k ≡ b → place_answer (not b) ≡ cond b (Err Full) (Ok tt)
answers l k true e = refl
answers l k false e = refl

sends_if : (k : Lanes) (q : Option TimedRequest) → Sent k q (taken_if Up (octets_if q) k) (placed_if Up (octets_if q) k)
sends_if k None = (refl, refl)
sends_if k (Some q) =
    steady_placed Up (request_octets q.request) k (steady_place Up (request_octets q.request) k) (place_answer (not (full Up k)))
    refl refl (answers Up k (full Up k) refl)

replies_if : {R : Type 0} (f : Format R) (s : Setup) (k : Lanes) (r : Option (Response R))
    → ((x : Response R) → r ≡ Some x → sendable (response_octets f s.parameters x) ≡ true)
    → Replied f s.parameters k r (taken_if Down (response_if f s r) k) (placed_if Down (response_if f s r) k)
replies_if f s k None h = (refl, refl)
replies_if f s k (Some x) h =
    steady_placed Down (response_octets f s.parameters x) k (steady_place Down (response_octets f s.parameters x) k)
    (place_answer (not (full Down k))) (h x refl) refl (answers Down k (full Down k) refl)

module _ {R : Type 0} (f : Format R) (s : Setup) (first : Lanes) (h : History R) (ran : Ran f s first h) where
  pub cycle_happens : (i : Inputs) → Lengthy (first_of (lanes_at first h).down) → Ran f s first (cycle_moment f s first h i ∷ h)
  cycle_happens i long =
      let c = consumer_at f s h in
      let b = cycle_brings f s first h i in (
        ran,
        record {
          between = cycle_between f s first h i;
          fetched = fetches_if (fetching f s first h i) (lanes_at first h) long;
          sent = sends_if (cycle_between f s first h i) (made (turn f s.parameters c i b) (cycle f s.parameters c i b));
          answer = refl;
        },
      )

  pub serve_happens : (r : R) (flags : ResponseFlags) → f.sound r ≡ true → Lengthy (first_of (lanes_at first h).up)
      → ((x : Response R) → reply f (provider_at f h) r flags (first_of (lanes_at first h).up) ≡ Some x
      → sendable (response_octets f s.parameters x) ≡ true)
      → Ran f s first (serve_moment f s first h r flags ∷ h)
  serve_happens r flags ok long short =
      let k = lanes_at first h in (
        ran,
        record {
          is_sound = ok;
          between = steady_fetch Up k;
          fetched = steady_got k Up (steady_fetch Up k) long refl;
          replied = replies_if f s (steady_fetch Up k) (reply f (provider_at f h) r flags (first_of k.up)) short;
          answer = refl;
        },
      )

  pub place_happens : (l : Lane) (m : Message) → Strange f s.parameters l m → sendable m ≡ true
      → Ran f s first (place_moment f s first h l m ∷ h)
  place_happens l m strange short =
      let k = lanes_at first h in
      (ran, (strange, steady_placed l m k (steady_place l m k) (steady_answer l k) short refl refl))
