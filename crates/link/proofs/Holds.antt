-- A hold lasts from a repeated fault to an acknowledgment edge, and under it substitutes are shown.
use Rattle.std.proofs.Common.{◌≡◌, ℕ, Bool, true, false, not, ◌&&◌, ◌||◌, [], ◌∷◌, refl, inl, inr}
use Rattle.consumer.specs.declared.event.Turn.TheVariants.{Disabled, Started, Expired, Nothing, Ignored, Fault, Accepted}
use Rattle.std.proofs.lemmas.Bool.{and_parts, and_from, or_left, or_right, not_from_false, cond-true, both_ways}
use Rattle.link.specs.Laws.{OfShown, Substitutes, Marked, IsFault, Repeats, Acknowledges, Unacknowledged, Held}
use Rattle.link.specs.Runs.{Call, History, Ran, Happens, consumer_at, consumer_after, provider_at, lanes_at}
use Rattle.link.specs.Runs.Call.{cycled, cycle_refused, served, serve_refused, placed}
use Rattle.link.specs.Words.{Brought, Lanes, Setup, Shown, State, Turn, Inputs, Parameters, Format, Memory}
use Rattle.link.specs.Words.{turn, cycle, after_turn, after_fault, is_edge, is_repeated, time_of}

-- by the mark the record is the substitute, and under a hold the mark is on
record Covered {R : Type 0} (f : Format R) (c : State R) : Type 0 where
  pub marks : c.shown.fsv_activated ≡ true → c.shown.safety_data ≡ f.substitute
  pub holds : c.hold ≡ true → c.shown.fsv_activated ≡ true

-- the hold after an edge, or none
abbrev still : {R : Type 0} → State R → Bool → Bool
still c edge = c.hold && not edge

module _ {R : Type 0} (f : Format R) (p : Parameters) (c : State R) (t : ℕ) (ack e : Bool) where
  fault_marks : (b : Bool) (o : Shown R) → (o.fsv_activated ≡ true → o.safety_data ≡ f.substitute)
      → (after_fault f b o).fsv_activated ≡ true → (after_fault f b o).safety_data ≡ f.substitute
  fault_marks true o g h = refl
  fault_marks false o g h = g h

  fault_holds : (k b : Bool) (o : Shown R) → (k ≡ true → o.fsv_activated ≡ true) → (k || b) ≡ true
      → (after_fault f b o).fsv_activated ≡ true
  fault_holds k true o g h = refl
  fault_holds true false o g h = g refl
  fault_holds false false o g h = g h

  turn_covered : (x : Turn R) → Covered f c → Covered f (after_turn f p c t ack e x)
  turn_covered Disabled g = record { marks = λ _. refl; holds = λ _. refl }
  turn_covered Started g = record { marks = λ _. refl; holds = λ _. refl }
  turn_covered Expired g = record { marks = λ _. refl; holds = λ _. refl }
  turn_covered Nothing g = record { marks = g.marks; holds = λ h. g.holds (and_parts c.hold (not e) h).0 }
  turn_covered Ignored g = record { marks = g.marks; holds = λ h. g.holds (and_parts c.hold (not e) h).0 }
  turn_covered (Fault n) g =
      let again = is_repeated p c.fault_time t in
      record {
        marks = fault_marks again _ g.marks;
        holds = fault_holds (still c e) again _ (λ h. g.holds (and_parts c.hold (not e) h).0);
      }
  turn_covered (Accepted r flags) g = record {
    marks = cond-true (still c e || flags.activate_fsv) f.substitute r;
    holds = or_left (still c e) flags.activate_fsv;
  }

  -- a hold goes on where the turn sees no edge
  turn_goes_on : (x : Turn R) → still c e ≡ true → (after_turn f p c t ack e x).hold ≡ true
  turn_goes_on Disabled h = (and_parts c.hold (not e) h).0
  turn_goes_on Started h = h
  turn_goes_on Expired h = or_left (still c e) p.operator_ack_necessary h
  turn_goes_on Nothing h = h
  turn_goes_on Ignored h = h
  turn_goes_on (Fault n) h = or_left (still c e) (is_repeated p c.fault_time t) h
  turn_goes_on (Accepted r flags) h = h

  -- a repeated fault starts one
  turn_starts : (x : Turn R) → IsFault x → is_repeated p c.fault_time t ≡ true → (after_turn f p c t ack e x).hold ≡ true
  turn_starts Disabled g h = absurd g
  turn_starts Started g h = absurd g
  turn_starts Expired g h = absurd g
  turn_starts Nothing g h = absurd g
  turn_starts Ignored g h = absurd g
  turn_starts (Fault n) g h = or_right (still c e) (is_repeated p c.fault_time t) h
  turn_starts (Accepted r flags) g h = absurd g

module _ {R : Type 0} (f : Format R) (s : Setup) where
  call_covered : (c : State R) (x : Call R) → Covered f c → Covered f (consumer_after f s c x)
  call_covered c (cycled i b taken o) g =
      turn_covered f s.parameters c (time_of c.time i.reading) i.ack (is_edge c i.ack) (turn f s.parameters c i b) g
  call_covered c (cycle_refused i) g = g
  call_covered c (served r flags b taken x) g = g
  call_covered c (serve_refused r flags x) g = g
  call_covered c (placed l m x) g = g

  covered : (h : History R) → Covered f (consumer_at f s h)
  covered [] = record { marks = λ _. refl; holds = λ h. absurd (both_ways false refl h) }
  covered (m ∷ h) = call_covered (consumer_at f s h) m.call (covered h)

  -- a disabled cycle keeps the hold, whatever its input; any other needs that there is no edge
  cycle_goes_on : (c : State R) (i : Inputs) (b : Brought) (enabled : Bool) → i.enable ≡ enabled → c.hold ≡ true
      → ((i.enable ≡ true) × (is_edge c i.ack ≡ true) → ⊥) → (cycle f s.parameters c i b).hold ≡ true
  unfolding turn
  cycle_goes_on c i b false e h n = rw e h
  cycle_goes_on c i b true e h n = by (is_edge c i.ack) refl
    where
      by : (edge : Bool) → is_edge c i.ack ≡ edge → (cycle f s.parameters c i b).hold ≡ true
      by true d = absurd (n (e, d))
      by false d =
          turn_goes_on f s.parameters c (time_of c.time i.reading) i.ack (is_edge c i.ack) (turn f s.parameters c i b)
          (and_from c.hold (not (is_edge c i.ack)) h (not_from_false (is_edge c i.ack) d))

  call_goes_on : (c : State R) (x : Call R) → c.hold ≡ true → (Acknowledges c x → ⊥) → (consumer_after f s c x).hold ≡ true
  call_goes_on c (cycled i b taken o) h n = cycle_goes_on c i b i.enable refl h n
  call_goes_on c (cycle_refused i) h n = h
  call_goes_on c (served r flags b taken x) h n = h
  call_goes_on c (serve_refused r flags x) h n = h
  call_goes_on c (placed l m x) h n = h

  call_starts : (c : State R) (x : Call R) → Repeats f s c x → (consumer_after f s c x).hold ≡ true
  call_starts c (cycled i b taken o) g =
      turn_starts f s.parameters c (time_of c.time i.reading) i.ack (is_edge c i.ack) (turn f s.parameters c i b) g.0 g.1
  call_starts c (cycle_refused i) g = absurd g
  call_starts c (served r flags b taken x) g = absurd g
  call_starts c (serve_refused r flags x) g = absurd g
  call_starts c (placed l m x) g = absurd g

  unacknowledged_holds : (h : History R) → Unacknowledged f s h → (consumer_at f s h).hold ≡ true
  unacknowledged_holds [] g = absurd g
  unacknowledged_holds (m ∷ h) (inl g) = call_starts (consumer_at f s h) m.call g
  unacknowledged_holds (m ∷ h) (inr g) = call_goes_on (consumer_at f s h) m.call (unacknowledged_holds h g.0) g.1

  -- what a cycle of a history shows is what the consumer shows after it
  of_shown : (P : Shown R → Type 0) (c : State R) (p : Memory R) (k l : Lanes) (x : Call R) → Happens f s c p k x l
      → P (consumer_after f s c x).shown → OfShown P x
  of_shown P c p k l (cycled i b taken o) g h = rw g.answer h
  of_shown P c p k l (cycle_refused i) g h = tt
  of_shown P c p k l (served r flags b taken x) g h = tt
  of_shown P c p k l (serve_refused r flags x) g h = tt
  of_shown P c p k l (placed w m x) g h = tt

  substitutes : (c : State R) → Covered f c → c.shown.fsv_activated ≡ true → Substitutes f c.shown
  substitutes c g e = record { mark = e; substitute = g.marks e }

  pub marked_runs : (first : Lanes) (h : History R) → Ran f s first h → Marked f h
  marked_runs first [] ran = tt
  marked_runs first (m ∷ h) ran = (
    marked_runs first h ran.0,
    of_shown (λ o. o.fsv_activated ≡ true → Substitutes f o) (consumer_at f s h) (provider_at f h) (lanes_at first h) m.lanes m.call
        ran.1 (substitutes (consumer_at f s (m ∷ h)) (covered (m ∷ h))),
  )

  pub held_runs : (first : Lanes) (h : History R) → Ran f s first h → Held f s h
  held_runs first [] ran = tt
  held_runs first (m ∷ h) ran = (
    held_runs first h ran.0,
    λ g. of_shown (Substitutes f) (consumer_at f s h) (provider_at f h) (lanes_at first h) m.lanes m.call ran.1
        (let c = covered (m ∷ h) in substitutes (consumer_at f s (m ∷ h)) c (c.holds (unacknowledged_holds (m ∷ h) g))),
  )
