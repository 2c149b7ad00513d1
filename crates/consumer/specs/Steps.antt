-- The steps of a cycle: what it meets, and what that makes of the consumer's state.
use Rattle.std.specs.Prelude.{ℕ, ◌-◌, ◌*◌, max, Bool, true, false, cond, not, ◌&&◌, ◌||◌, Some, None, Ok, Err, Option, Result, nat_le, nat_lt}
use Rattle.carrier.specs.Fetch.{Brought}
use Rattle.consumer.specs.declared.event.CycleAnswer.{CycleAnswer}
use Rattle.consumer.specs.declared.event.Event.{Event}
use Rattle.consumer.specs.declared.event.Turn.{Turn}
use Rattle.consumer.specs.declared.event.Turn.TheVariants.{Disabled, Started, Expired, Nothing, Ignored, Fault, Accepted}
use Rattle.consumer.specs.declared.fault.CycleFault.{CycleFault}
use Rattle.consumer.specs.declared.inputs.Inputs.{Inputs}
use Rattle.consumer.specs.declared.setup.Setup.{Setup}
use Rattle.consumer.specs.declared.state.Shown.{Shown}
use Rattle.consumer.specs.declared.state.State.{State}
use Rattle.consumer.specs.declared.state.TimedRequest.{TimedRequest}
use Rattle.consumer.specs.Judgment.{judged}
use Rattle.message.specs.declared.flags.ResponseFlags.{ResponseFlags}
use Rattle.message.specs.declared.parameters.Parameters.{Parameters}
use Rattle.message.specs.Number.{next_number}
use Rattle.record.specs.Kind.{Format}

-- to blank: substitutes are shown and all flags are off
abbrev pub blank : {R : Type 0} → Format R → Shown R
blank f = record {
  safety_data = f.substitute;
  fsv_activated = true;
  operator_ack_requested = false;
  operator_ack_provider = false;
  test_mode_activated = false;
}

-- a consumer just made is blank, no request stands and there is no hold
abbrev pub fresh : {R : Type 0} → Format R → Setup → State R
fresh f s = record {
  shown = blank f;
  standing = None;
  accepted = None;
  next_number = s.start.value;
  time = None;
  input = false;
  hold = false;
  fault_time = None;
  error = false;
}

-- a reading below the time of the cycle before has run back
abbrev pub ran_back : Option ℕ → ℕ → Bool
ran_back None reading = false
ran_back (Some before) reading = nat_lt reading before

-- the cycle's time: the larger of the two
abbrev pub time_of : Option ℕ → ℕ → ℕ
time_of None reading = reading
time_of (Some before) reading = max before reading

-- an acknowledgment edge: input on, off in the cycle before, and the wish in that cycle's answer
abbrev pub is_edge : {R : Type 0} → State R → Bool → Bool
is_edge c ack = ack && (not c.input && c.shown.operator_ack_requested)

-- the standing request has expired exactly if the reading ran back or time minus its time exceeds the timeout
abbrev pub has_expired : {R : Type 0} → Parameters → State R → ℕ → TimedRequest → Bool
has_expired p c reading q = ran_back c.time reading || nat_lt p.timeout (time_of c.time reading - q.time)

abbrev pub turn_of : {R : Type 0} → Result (Turn R) CycleFault → Turn R
turn_of (Ok turn) = turn
turn_of (Err fault) = Fault fault

abbrev pub brought_turn : {R : Type 0} → Format R → Parameters → State R → TimedRequest → Brought → Turn R
brought_turn f p c q None = Nothing
brought_turn f p c q (Some m) = turn_of (judged f p c.accepted q m)

abbrev pub standing_turn : {R : Type 0} → Format R → Parameters → State R → ℕ → Option TimedRequest → Brought → Turn R
standing_turn f p c reading None b = Started
standing_turn f p c reading (Some q) b = cond (has_expired p c reading q) Expired (brought_turn f p c q b)

-- the turn that a cycle takes: enable off; else no request standing; else expiry; else what the fetch brought
unfoldable pub turn : {R : Type 0} → Format R → Parameters → State R → Inputs → Brought → Turn R
turn f p c i b = cond i.enable (standing_turn f p c i.reading c.standing b) Disabled

abbrev pub standing_fetches : {R : Type 0} → Parameters → State R → ℕ → Option TimedRequest → Bool
standing_fetches p c reading None = false
standing_fetches p c reading (Some q) = not (has_expired p c reading q)

-- a cycle fetches exactly if it is enabled and a request stands that has not expired
abbrev pub fetches : {R : Type 0} → Parameters → State R → Inputs → Bool
fetches p c i = i.enable && standing_fetches p c i.reading c.standing

-- the error interval in milliseconds
abbrev pub interval : Parameters → ℕ
interval p = p.error_interval * 60000

-- a fault is repeated if it comes no more than the error interval after the one before
abbrev pub is_repeated : Parameters → Option ℕ → ℕ → Bool
is_repeated p None time = false
is_repeated p (Some before) time = nat_le (time - before) (interval p)

-- an edge ends the wish
abbrev pub wish_ended : {R : Type 0} → Bool → Shown R → Shown R
wish_ended edge o = record {
  safety_data = o.safety_data;
  fsv_activated = o.fsv_activated;
  operator_ack_requested = o.operator_ack_requested && not edge;
  operator_ack_provider = o.operator_ack_provider;
  test_mode_activated = o.test_mode_activated;
}

-- a repeated fault shows substitutes and turns the wish off; any other leaves what is shown
abbrev pub after_fault : {R : Type 0} → Format R → Bool → Shown R → Shown R
after_fault f true o = record {
  safety_data = f.substitute;
  fsv_activated = true;
  operator_ack_requested = false;
  operator_ack_provider = o.operator_ack_provider;
  test_mode_activated = o.test_mode_activated;
}
after_fault f false o = o

-- an accepted response: substitutes under a hold or where the provider asks for them, else the record; the wish exactly
-- under a hold where the provider does not ask; two flags are copied
abbrev pub accepting : {R : Type 0} → Format R → Bool → R → ResponseFlags → Shown R
accepting f hold r flags = record {
  safety_data = cond (hold || flags.activate_fsv) f.substitute r;
  fsv_activated = hold || flags.activate_fsv;
  operator_ack_requested = hold && not flags.activate_fsv;
  operator_ack_provider = flags.operator_ack_provider;
  test_mode_activated = flags.test_mode_activated;
}

-- the request that a cycle makes: the next number, the cycle's time, and three flags
abbrev pub asking : {R : Type 0} → Parameters → ℕ → ℕ → Bool → Shown R → TimedRequest
asking p number time error o = record {
  request = record {
    consumer_id = p.consumer_id;
    monitoring_number = number;
    flags = record {
      communication_error = error;
      operator_ack_requested = o.operator_ack_requested;
      fsv_activated = o.fsv_activated;
    };
  };
  time = time;
}

-- the cycle's time and input become those of the cycle before
abbrev pub clocked : {R : Type 0} → ℕ → Bool → State R → State R
clocked time ack c = record {
  shown = c.shown;
  standing = c.standing;
  accepted = c.accepted;
  next_number = c.next_number;
  time = Some time;
  input = ack;
  hold = c.hold;
  fault_time = c.fault_time;
  error = c.error;
}

-- what is shown from now on
abbrev pub showing : {R : Type 0} → Shown R → State R → State R
showing o c = record {
  shown = o;
  standing = c.standing;
  accepted = c.accepted;
  next_number = c.next_number;
  time = c.time;
  input = c.input;
  hold = c.hold;
  fault_time = c.fault_time;
  error = c.error;
}

-- an edge ends the hold
abbrev pub released : {R : Type 0} → Bool → State R → State R
released edge c = record {
  shown = c.shown;
  standing = c.standing;
  accepted = c.accepted;
  next_number = c.next_number;
  time = c.time;
  input = c.input;
  hold = c.hold && not edge;
  fault_time = c.fault_time;
  error = c.error;
}

-- a hold starts
abbrev pub holding : {R : Type 0} → Bool → State R → State R
holding starts c = record {
  shown = c.shown;
  standing = c.standing;
  accepted = c.accepted;
  next_number = c.next_number;
  time = c.time;
  input = c.input;
  hold = c.hold || starts;
  fault_time = c.fault_time;
  error = c.error;
}

-- no request stands
abbrev pub withdrawn : {R : Type 0} → State R → State R
withdrawn c = record {
  shown = c.shown;
  standing = None;
  accepted = c.accepted;
  next_number = c.next_number;
  time = c.time;
  input = c.input;
  hold = c.hold;
  fault_time = c.fault_time;
  error = c.error;
}

-- every fault sets the last fault's time, and the request stands on
abbrev pub faulted : {R : Type 0} → ℕ → State R → State R
faulted time c = record {
  shown = c.shown;
  standing = c.standing;
  accepted = c.accepted;
  next_number = c.next_number;
  time = c.time;
  input = c.input;
  hold = c.hold;
  fault_time = Some time;
  error = true;
}

-- the standing request becomes the last accepted one
abbrev pub answered : {R : Type 0} → State R → State R
answered c = record {
  shown = c.shown;
  standing = c.standing;
  accepted = c.standing;
  next_number = c.next_number;
  time = c.time;
  input = c.input;
  hold = c.hold;
  fault_time = c.fault_time;
  error = c.error;
}

-- a request is made for what is now shown, and stands
abbrev pub asked : {R : Type 0} → Parameters → ℕ → Bool → State R → State R
asked p time error c = record {
  shown = c.shown;
  standing = Some (asking p c.next_number time error c.shown);
  accepted = c.accepted;
  next_number = next_number c.next_number;
  time = c.time;
  input = c.input;
  hold = c.hold;
  fault_time = c.fault_time;
  error = false;
}

-- a fault, repeated or not: a repeated one starts a hold
abbrev pub failed : {R : Type 0} → Format R → Bool → ℕ → Bool → State R → State R
failed f repeated time edge c =
    faulted time (showing (after_fault f repeated (wish_ended edge c.shown)) (holding repeated (released edge c)))

-- the state after a turn at this time, with this input, where the input is an edge or not
abbrev pub after_turn : {R : Type 0} → Format R → Parameters → State R → ℕ → Bool → Bool → Turn R → State R
after_turn f p c time ack edge Disabled = showing (blank f) (withdrawn (clocked time ack c))
after_turn f p c time ack edge Started = asked p time c.error (showing (blank f) (released edge (clocked time ack c)))
after_turn f p c time ack edge Expired =
    asked p time true (showing (blank f) (holding p.operator_ack_necessary (released edge (clocked time ack c))))
after_turn f p c time ack edge Nothing = showing (wish_ended edge c.shown) (released edge (clocked time ack c))
after_turn f p c time ack edge Ignored = showing (wish_ended edge c.shown) (released edge (clocked time ack c))
after_turn f p c time ack edge (Fault fault) = failed f (is_repeated p c.fault_time time) time edge (clocked time ack c)
after_turn f p c time ack edge (Accepted r flags) =
    asked p time c.error (showing (accepting f (c.hold && not edge) r flags) (answered (released edge (clocked time ack c))))

-- the state after a cycle with these inputs, of what its fetch brought
abbrev pub cycle : {R : Type 0} → Format R → Parameters → State R → Inputs → Brought → State R
cycle f p c i b = after_turn f p c (time_of c.time i.reading) i.ack (is_edge c i.ack) (turn f p c i b)

-- does a turn make a request?
abbrev pub makes : {R : Type 0} → Turn R → Bool
makes Disabled = false
makes Started = true
makes Expired = true
makes Nothing = false
makes Ignored = false
makes (Fault fault) = false
makes (Accepted r flags) = true

abbrev pub made_if : Bool → Option TimedRequest → Option TimedRequest
made_if true q = q
made_if false q = None

-- the request that a turn makes is the one that stands after it
abbrev pub made : {R : Type 0} → Turn R → State R → Option TimedRequest
made t after = made_if (makes t) after.standing

-- the turn as a cycle tells it
abbrev pub event_of : {R : Type 0} → Turn R → Event
event_of Disabled = Event.Disabled
event_of Started = Event.Started
event_of Expired = Event.Expired
event_of Nothing = Event.Nothing
event_of Ignored = Event.Ignored
event_of (Fault fault) = Event.Fault fault
event_of (Accepted r flags) = Event.Accepted

abbrev pub answer_of : {R : Type 0} → Turn R → State R → CycleAnswer R
answer_of t after = record { shown = after.shown; event = event_of t }
