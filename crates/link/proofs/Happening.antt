-- The examples happen, call by call.
use Rattle.std.proofs.Common.{◌≡◌, ℕ, Bool, true, false, [], ◌∷◌, Some, None, Option, refl, subst, inl, lit<, lit≤}
use borrow.Author.Tests.{both_ways}
use Rattle.carrier.proofs.Steady.{Lengthy}
use Rattle.carrier.specs.declared.lane.Lane.TheVariants.{Down}
use Rattle.record.specs.declared.meter.Meter.{Meter}
use Rattle.record.specs.Meters.{meter_format}
use Rattle.signature.specs.Signature.{bit_step, octet_step}
use Rattle.link.specs.Examples.{example_setup, publishing_lanes, calling_lanes, cycling, serving, intruding, counted, no_flags, at}
use Rattle.link.specs.Examples.{two_rounds, TwoRounds, two_faults, wished, HoldAndEdge}
use Rattle.link.specs.Laws.{Rounds}
use Rattle.link.specs.Laws.Rounds.{start, round}
use Rattle.link.specs.Runs.{Ran, History, lanes_at, provider_at}
use Rattle.link.specs.Words.{Lanes, Response, first_of, reply, sendable, response_octets, judged, turn, u32_at, with_signature}
use Rattle.link.proofs.Steadily.{cycle_happens, serve_happens, place_happens}

-- what is sent, if anything, has a lawful length
abbrev Sendable : Option (Response Meter) → Type 0
Sendable None = Unit
Sendable (Some r) = sendable (response_octets meter_format example_setup.parameters r) ≡ true

module _ (first : Lanes) (h : History Meter) (ran : Ran meter_format example_setup first h) where
  cycles : (reading : ℕ) (ack : Bool) → Lengthy (first_of (lanes_at first h).down) → Ran meter_format example_setup first (cycling first reading ack h)
  cycles reading ack long = cycle_happens meter_format example_setup first h ran (at reading ack) long

  serves : (pulses : ℕ) → meter_format.sound (counted pulses) ≡ true → Lengthy (first_of (lanes_at first h).up)
      → Sendable (reply meter_format (provider_at meter_format h) (counted pulses) no_flags (first_of (lanes_at first h).up))
      → Ran meter_format example_setup first (serving first pulses h)
  serves pulses ok long short =
      serve_happens meter_format example_setup first h ran (counted pulses) no_flags ok long (λ x e. subst Sendable e short)

  intrudes : Ran meter_format example_setup first (intruding first (0xFF ∷ []) h)
  intrudes =
      place_happens meter_format example_setup first h ran Down (0xFF ∷ [])
      ((lit< tt, tt), λ sounds. absurd (both_ways false refl sounds)) refl

-- the rounds are undisturbed over whatever lanes
rounds_of : (first : Lanes) → first.up ≡ [] → first.down ≡ [] → Rounds meter_format example_setup first (two_rounds first) (Some (counted 2000))
unfolding turn
rounds_of first up down =
    round _ _ _ _ _ _ _ _ _ _ _
    (round _ _ _ _ _ _ _ _ _ _ _ (start (record { up = up; down = down; standing = refl; hold = refl })) refl tt refl)
    refl (lit≤ tt, lit≤ tt) refl

made : Ran meter_format example_setup publishing_lanes [] × Ran meter_format example_setup calling_lanes []
made = ((refl, refl, record { up = lit≤ tt; down = lit≤ tt }), (refl, refl, record { up = lit≤ tt; down = lit≤ tt }))

pub publishing_rounds : TwoRounds publishing_lanes
unfolding judged turn u32_at with_signature bit_step octet_step
publishing_rounds =
    let p = publishing_lanes in
    let h1 = cycling p 10 false [] in
    let h2 = serving p 1000 h1 in
    let h3 = cycling p 20 false h2 in
    let r1 = cycles p [] made.0 10 false tt in
    let r2 = serves p h1 r1 1000 refl (lit≤ tt, lit≤ tt) refl in
    let r3 = cycles p h2 r2 20 false (lit≤ tt, lit≤ tt) in
    let r4 = serves p h3 r3 2000 refl (lit≤ tt, lit≤ tt) refl in
    record {
      ran = cycles p (two_rounds p) r4 30 false (lit≤ tt, lit≤ tt);
      few = lit≤ tt;
      rounds = rounds_of p refl refl;
      shows = refl;
    }

pub calling_rounds : TwoRounds calling_lanes
unfolding judged turn u32_at with_signature bit_step octet_step
calling_rounds =
    let p = calling_lanes in
    let h1 = cycling p 10 false [] in
    let h2 = serving p 1000 h1 in
    let h3 = cycling p 20 false h2 in
    let r1 = cycles p [] made.1 10 false tt in
    let r2 = serves p h1 r1 1000 refl (lit≤ tt, lit≤ tt) refl in
    let r3 = cycles p h2 r2 20 false (lit≤ tt, lit≤ tt) in
    let r4 = serves p h3 r3 2000 refl (lit≤ tt, lit≤ tt) refl in
    record {
      ran = cycles p (two_rounds p) r4 30 false (lit≤ tt, lit≤ tt);
      few = lit≤ tt;
      rounds = rounds_of p refl refl;
      shows = refl;
    }

pub hold_and_edge : HoldAndEdge calling_lanes
unfolding judged turn u32_at with_signature bit_step octet_step
hold_and_edge =
    let p = calling_lanes in
    let h1 = cycling p 10 false [] in
    let h2 = intruding p (0xFF ∷ []) h1 in
    let h3 = cycling p 20 false h2 in
    let h4 = intruding p (0xFF ∷ []) h3 in
    let h6 = serving p 1000 (two_faults p) in
    let h7 = cycling p 40 false h6 in
    let r1 = cycles p [] made.1 10 false tt in
    let r2 = intrudes p h1 r1 in
    let r3 = cycles p h2 r2 20 false (lit≤ tt, lit≤ tt) in
    let r4 = intrudes p h3 r3 in
    let r5 = cycles p h4 r4 30 false (lit≤ tt, lit≤ tt) in
    let r6 = serves p (two_faults p) r5 1000 refl (lit≤ tt, lit≤ tt) refl in
    let r7 = cycles p h6 r6 40 false (lit≤ tt, lit≤ tt) in
    let r8 = serves p h7 r7 2000 refl (lit≤ tt, lit≤ tt) refl in
    record {
      ran = cycles p (wished p) r8 50 true (lit≤ tt, lit≤ tt);
      few = lit≤ tt;
      unacknowledged = inl (tt, refl);
      acknowledges = (refl, refl);
      shows = refl;
    }
