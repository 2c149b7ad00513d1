-- What a steady carrier does with a lane where nothing waits, and that it stays steady.
use Rattle.std.proofs.Common.{◌≡◌, ◌≤◌, Bool, true, false, eqb, List, [], ◌∷◌, ◌++◌, length, Some, Result, sym, refl, ap, ◌∙◌, arith}
use Rattle.carrier.specs.declared.lane.Lane.TheVariants.{Up, Down}
use Rattle.std.proofs.lemmas.Bool.{both_ways, cond-false, cond-true, ne_eqb}
use Rattle.link.specs.Runs.{Call, History, Happens, Ran, consumer_at, lanes_at, provider_at}
use Rattle.link.specs.Runs.Call.{cycled, cycle_refused, served, serve_refused, placed}
use Rattle.link.specs.Words.{Brought, Fixed, Format, Got, HasSlots, Lane, Lanes, Memory, Message, PlaceRefusal, Placed, Setup, State}
use Rattle.link.specs.Words.{cycle, fetches, first_of, full, lane_of, made, other, reply, rest_of, sendable, slots_of, steady_fetch}
use Rattle.link.specs.Words.{steady_place, turn, with_lane}
use Rattle.link.proofs.Carries.{fetched_gains, placed_fixed, placing_fixed, replied_places, sent_places}

-- a steady carrier with a slot in each lane
pub record Firm (l : Lanes) : Type 0 where
  pub steady : l.steady ≡ true
  pub slots : HasSlots l

pub firm_on : {before after : Lanes} → Fixed before after → Firm before → Firm after
firm_on fixed firm = record {
  steady = fixed.steady ∙ firm.steady;
  slots = record { up = rw fixed.up_slots firm.slots.up; down = rw fixed.down_slots firm.slots.down };
}

-- nothing waits in a lane: it is empty, or its message stands and gives way to the next
abbrev pub Free : Lane → Lanes → Type 0
Free w l = l.standing ≡ false → lane_of w l ≡ []

pub free_on : (w : Lane) {before after : Lanes} → Fixed before after → lane_of w after ≡ lane_of w before → Free w before → Free w after
free_on w fixed same free = λ e. same ∙ free (sym fixed.standing ∙ e)

lane_with : (w : Lane) (l : Lanes) (ms : List Message)
    → (lane_of w (with_lane w ms l) ≡ ms) × (lane_of (other w) (with_lane w ms l) ≡ lane_of (other w) l)
lane_with Up l ms = (refl, refl)
lane_with Down l ms = (refl, refl)

has_slot : (w : Lane) (l : Lanes) → HasSlots l → 1 ≤ slots_of w l
has_slot Up l slots = slots.up
has_slot Down l slots = slots.down

place_free : (w : Lane) (m : Message) (l : Lanes) → HasSlots l → Free w l → (z : Bool) → l.standing ≡ z
    → steady_place w m l ≡ with_lane w (m ∷ []) l
place_free w m l slots free true e = cond-true l.standing _ _ e
place_free w m l slots free false e =
    let some : eqb 0 (slots_of w l) ≡ false = ne_eqb 0 (slots_of w l) (omega (arith, has_slot w l slots)) in
    let room : full w l ≡ false =
    cond-false l.standing false _ e ∙ ap (λ (ms : List Message). eqb (length ms) (slots_of w l)) (free e) ∙ some in
    cond-false l.standing _ _ e ∙ cond-false (full w l) l _ room ∙ ap (λ ms. with_lane w (ms ++ m ∷ []) l) (free e)

-- a message that is placed where nothing waits is alone
pub placed_alone : (w : Lane) {m : Message} {before after : Lanes} {x : Result Unit PlaceRefusal} → sendable m ≡ true → Firm before
    → Free w before → Placed w m before after x
    → (lane_of w after ≡ m ∷ []) × (lane_of (other w) after ≡ lane_of (other w) before)
placed_alone w {m} {before} fits firm free g =
    let e = ((g.put fits).when_steady firm.steady).0 ∙ place_free w m before firm.slots free before.standing refl in
    rw e (lane_with w before (m ∷ []))

fetch_rest : (w : Lane) (m : Message) (l : Lanes) → lane_of w l ≡ m ∷ [] → (z : Bool) → l.standing ≡ z
    → Free w (steady_fetch w l) × (lane_of (other w) (steady_fetch w l) ≡ lane_of (other w) l)
fetch_rest w m l is true e = rw (cond-true l.standing l _ e) (λ off. absurd (both_ways l.standing off e), refl)
fetch_rest w m l is false e =
    let (this, that) = lane_with w l [] in
    rw (cond-false l.standing l _ e ∙ ap (λ (ms : List Message). with_lane w (rest_of ms) l) is) (λ _. this, that)

-- a message that is alone is fetched, and then nothing waits
pub fetched_alone : (w : Lane) {m : Message} {before after : Lanes} {b : Brought} → Firm before → lane_of w before ≡ m ∷ []
    → Got w before after b → (b ≡ Some m) × Free w after × (lane_of (other w) after ≡ lane_of (other w) before)
fetched_alone w {m} {before} firm is g =
    let (brought, e) = g.when_steady firm.steady in
    let (this, that) = fetch_rest w m before is before.standing refl in
    (brought ∙ ap first_of is, rw e this, rw e that)

-- a carrier stays steady from call to call
call_firm : {R : Type 0} (f : Format R) (s : Setup) (c : State R) (memory : Memory R) (before after : Lanes) (x : Call R)
    → Happens f s c memory before x after → Firm before → Firm after
call_firm f s c memory before after (cycled i b taken o) g firm =
    let mid = g.between in
    let new = made (turn f s.parameters c i b) (cycle f s.parameters c i b) in
    let between = firm_on (fetched_gains (fetches s.parameters c i) Down before b mid g.fetched).fixed firm in
    firm_on (placing_fixed (sent_places mid new taken after g.sent)) between
call_firm f s c memory before after (cycle_refused i) g firm = rw g firm
call_firm f s c memory before after (served r flags b taken x) g firm =
    let sent = replied_places f s.parameters g.between (reply f memory r flags b) taken after g.replied in
    firm_on (placing_fixed sent) (firm_on g.fetched.fixed firm)
call_firm f s c memory before after (serve_refused r flags x) g firm = rw g.1 firm
call_firm f s c memory before after (placed w m x) g firm = firm_on (placed_fixed g.1) firm

pub firm_runs : {R : Type 0} (f : Format R) (s : Setup) (first : Lanes) → first.steady ≡ true → (h : History R) → Ran f s first h
    → Firm (lanes_at first h)
firm_runs f s first steady [] (up, down, slots) = record { steady = steady; slots = slots }
firm_runs f s first steady (x ∷ h) (ran, happens) =
    call_firm f s (consumer_at f s h) (provider_at f h) (lanes_at first h) x.lanes x.call happens (firm_runs f s first steady h ran)
