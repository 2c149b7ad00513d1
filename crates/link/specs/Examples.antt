-- Histories that can happen: the laws speak of something.
use Rattle.std.specs.Prelude.{◌≡◌, ℕ, ◌≤◌, Bool, true, false, cond, not, [], ◌∷◌, pos, Some, None, Option, refl}
use Rattle.std.proofs.Common.{lit<, lit≤}
use Rattle.carrier.specs.declared.lane.Lane.TheVariants.{Up, Down}
use Rattle.record.specs.declared.meter.Meter.{Meter}
use Rattle.record.specs.Meters.{meter_format}
use Rattle.link.specs.Laws.{Rounds, Unacknowledged, Acknowledges, requests, most_requests}
use Rattle.link.specs.Runs.{Call, Moment, History, Ran, consumer_at, provider_at, lanes_at}
use Rattle.link.specs.Runs.Call.{cycled, cycle_refused, served, serve_refused, placed}
use Rattle.link.specs.Words.{Lane, Brought, Message, Lanes, first_of, steady_fetch, full, steady_place, steady_answer}
use Rattle.link.specs.Words.{Setup, Shown, TimedRequest, Inputs, turn, cycle, fetches, made, answer_of}
use Rattle.link.specs.Words.{ResponseFlags, Response, request_octets, response_octets, reply, told, Format}

-- consumer 7, provider 1, a timeout of 100 milliseconds, an error interval of 6 minutes; the first number is 256
abbrev pub example_setup : Setup
example_setup = record {
  parameters = record {
    consumer_id = 7;
    provider_id = 1;
    base_id = record {
      w1 = 1;
      w2 = 2;
      w3 = 0xFF00;
      w4 = 0x0FF0;
      w1_fits = lit< tt;
      w2_fits = lit< tt;
      w3_fits = lit< tt;
      w4_fits = lit< tt;
    };
    level = 3;
    timeout = 100;
    error_interval = 6;
    operator_ack_necessary = true;
    consumer_fits = lit< tt;
    provider_fits = lit< tt;
    level_least = lit≤ tt;
    level_most = lit≤ tt;
    timeout_least = lit≤ tt;
    timeout_most = lit≤ tt;
    interval_known = refl;
  };
  start = record { value = 256; low = lit≤ tt; high = lit< tt };
}

-- the lanes of a publishing carrier, and of a calling one with four slots up and two down
abbrev pub publishing_lanes : Lanes
publishing_lanes = record { up = []; down = []; steady = true; standing = true; up_slots = 1; down_slots = 1 }

abbrev pub calling_lanes : Lanes
calling_lanes = record { up = []; down = []; steady = true; standing = false; up_slots = 4; down_slots = 2 }

-- a place on steady lanes, if there is something to place: whether it is taken, and the lanes then
abbrev pub taken_if : Lane → Option Message → Lanes → Bool
taken_if l None k = false
taken_if l (Some m) k = not (full l k)

abbrev pub placed_if : Lane → Option Message → Lanes → Lanes
placed_if l None k = k
placed_if l (Some m) k = steady_place l m k

abbrev pub octets_if : Option TimedRequest → Option Message
octets_if None = None
octets_if (Some q) = Some (request_octets q.request)

abbrev pub response_if : {R : Type 0} → Format R → Setup → Option (Response R) → Option Message
response_if f s None = None
response_if f s (Some r) = Some (response_octets f s.parameters r)

-- what a cycle does over a steady carrier, after a history
module _ {R : Type 0} (f : Format R) (s : Setup) (first : Lanes) (h : History R) where
  abbrev pub fetching : Inputs → Bool
  fetching i = fetches s.parameters (consumer_at f s h) i

  abbrev pub cycle_brings : Inputs → Brought
  cycle_brings i = cond (fetching i) (first_of (lanes_at first h).down) None

  abbrev pub cycle_between : Inputs → Lanes
  cycle_between i = cond (fetching i) (steady_fetch Down (lanes_at first h)) (lanes_at first h)

  abbrev pub cycle_sends : Inputs → Option Message
  cycle_sends i =
      let c = consumer_at f s h in
      let b = cycle_brings i in
      octets_if (made (turn f s.parameters c i b) (cycle f s.parameters c i b))

  abbrev pub cycle_moment : Inputs → Moment R
  cycle_moment i =
      let c = consumer_at f s h in
      let b = cycle_brings i in
      record {
        call = cycled i b (taken_if Up (cycle_sends i) (cycle_between i)) (answer_of (turn f s.parameters c i b) (cycle f s.parameters c i b));
        lanes = placed_if Up (cycle_sends i) (cycle_between i);
      }

  -- what a serve does there
  abbrev pub serve_moment : R → ResponseFlags → Moment R
  serve_moment r flags =
      let p = provider_at f h in
      let b = first_of (lanes_at first h).up in
      let between = steady_fetch Up (lanes_at first h) in
      let sends = response_if f s (reply f p r flags b) in
      let taken = taken_if Down sends between in
      record { call = served r flags b taken (told f p b taken); lanes = placed_if Down sends between }

  -- what a stranger's place does there
  abbrev pub place_moment : Lane → Message → Moment R
  place_moment l m = record { call = placed l m (steady_answer l (lanes_at first h)); lanes = steady_place l m (lanes_at first h) }

-- an enabled cycle at this reading, with the acknowledgment input
abbrev pub at : ℕ → Bool → Inputs
at reading ack = record { reading = reading; enable = true; ack = ack }

abbrev pub counted : ℕ → Meter
counted pulses = record { pulses = pulses; centidegrees = pos 0; valid = true }

abbrev pub no_flags : ResponseFlags
no_flags = record { operator_ack_provider = false; activate_fsv = false; test_mode_activated = false }

abbrev pub cycling : Lanes → ℕ → Bool → History Meter → History Meter
cycling first reading ack h = cycle_moment meter_format example_setup first h (at reading ack) ∷ h

abbrev pub serving : Lanes → ℕ → History Meter → History Meter
serving first pulses h = serve_moment meter_format example_setup first h (counted pulses) no_flags ∷ h

abbrev pub intruding : Lanes → Message → History Meter → History Meter
intruding first m h = place_moment meter_format example_setup first h Down m ∷ h

-- what the newest call shows, if it is a cycle
abbrev pub shown_last : {R : Type 0} → Call R → Option (Shown R)
shown_last (cycled i b taken o) = Some o.shown
shown_last (cycle_refused i) = None
shown_last (served r flags b taken x) = None
shown_last (serve_refused r flags x) = None
shown_last (placed l m x) = None

-- a record shown as process values with every flag off
abbrev pub process_values : {R : Type 0} → R → Shown R
process_values r = record {
  safety_data = r;
  fsv_activated = false;
  operator_ack_requested = false;
  operator_ack_provider = false;
  test_mode_activated = false;
}

-- two undisturbed rounds: 1,000 and then 2,000 pulses are served
abbrev pub two_rounds : Lanes → History Meter
two_rounds first = serving first 2000 (cycling first 20 false (serving first 1000 (cycling first 10 false [])))

-- they can happen, and the next cycle shows the 2,000 pulses
pub record TwoRounds (first : Lanes) : Type 0 where
  pub ran : Ran meter_format example_setup first (cycling first 30 false (two_rounds first))
  pub few : requests meter_format example_setup (cycling first 30 false (two_rounds first)) ≤ most_requests
  pub rounds : Rounds meter_format example_setup first (two_rounds first) (Some (counted 2000))
  pub shows : shown_last (cycle_moment meter_format example_setup first (two_rounds first) (at 30 false)).call ≡ Some (process_values (counted 2000))

-- two faults within the interval: a stranger's octet comes twice while a request stands
abbrev pub two_faults : Lanes → History Meter
two_faults first =
    cycling first 30 false (intruding first (0xFF ∷ []) (cycling first 20 false (intruding first (0xFF ∷ []) (cycling first 10 false []))))

-- the request is answered, the consumer wishes for an acknowledgment, and gets one with the next response
abbrev pub wished : Lanes → History Meter
wished first = serving first 2000 (cycling first 40 false (serving first 1000 (two_faults first)))

-- all that can happen: after the faults there is a repeated fault without acknowledgment, the last cycle acknowledges, and
-- shows the 2,000 pulses
pub record HoldAndEdge (first : Lanes) : Type 0 where
  pub ran : Ran meter_format example_setup first (cycling first 50 true (wished first))
  pub few : requests meter_format example_setup (cycling first 50 true (wished first)) ≤ most_requests
  pub unacknowledged : Unacknowledged meter_format example_setup (two_faults first)
  pub acknowledges :
      Acknowledges (consumer_at meter_format example_setup (wished first))
      (cycle_moment meter_format example_setup first (wished first) (at 50 true)).call
  pub shows : shown_last (cycle_moment meter_format example_setup first (wished first) (at 50 true)).call ≡ Some (process_values (counted 2000))

pub record Examples : Type 0 where
  pub publishing_rounds : TwoRounds publishing_lanes
  pub calling_rounds : TwoRounds calling_lanes
  pub hold_and_edge : HoldAndEdge calling_lanes
