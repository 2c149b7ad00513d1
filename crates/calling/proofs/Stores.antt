-- Place and fetch in a lawful lane memory.
use Rattle.std.proofs.Common.{◌≡◌, ℕ, ◌*◌, ◌<◌, ◌≤◌, true, false, List, [], ◌∷◌, ◌++◌, length, Some, None, Ok, Err, sym, refl, ap, ◌∙◌, subst, arith, length-append}
use Rattle.std.specs.List.{AllByRecursion}
use Rattle.std.proofs.lemmas.List.{length-map}
use Rattle.std.proofs.lemmas.Bool.{eq-eqb, ne_eqb, cond-true, cond-false}
use Rattle.calling.specs.declared.chains.Heads.{Heads}
use Rattle.calling.specs.Chains.{Chain, Lawful, Linked, Sized, SlotNumber, Stored, free_slots, held, last_or, messages, waiting_slots}
use Rattle.calling.specs.Lane.{Appends, Takes, crowded}
use Rattle.calling.specs.Slots.{Slot, Changed, Within, slot_octets, slot_of}
use Rattle.calling.proofs.Changes.{met_is, all_parts, split_last, placed_first, appended, placed_next, fetched}
use Rattle.carrier.specs.declared.lane.PlaceRefusal.TheVariants.{Full}
use Rattle.carrier.specs.Fetch.{brought_in, first_of, length_of, rest_of}
use Rattle.carrier.specs.Lanes.{Message}

-- what is known of the chains is known of what is met
pub settled : (s : Stored) (ws fs : List ℕ) → s.heads.slots * slot_octets ≤ length s.octets
    → Linked (slot_of s.octets) s.heads ws fs → Lawful s × (held s ≡ messages (slot_of s.octets) ws)
unfolding held
settled s ws fs fits l =
    let at = slot_of s.octets in
    let n = s.heads.slots in
    let count = simp length-append at l.slots.count in
    let range = all_parts (SlotNumber n) ws fs l.slots.range in
    let w = met_is n n at s.heads.first ws l.waits range.0 (omega arith) in
    let f = met_is n n at s.heads.free fs l.frees range.1 (omega arith) in (
      record {
        fits = fits;
        linked = subst (λ us. Linked at s.heads us (free_slots s)) (sym w) (subst (λ us. Linked at s.heads ws us) (sym f) l);
      },
      ap (messages at) w,
    )

starts : (at : ℕ → Slot) (h : ℕ) (ks : List ℕ) → Chain at h ks → 0 < h → (js : List ℕ) × (ks ≡ h ∷ js)
starts at h [] c p = absurd (omega arith)
starts at h (k ∷ ks) c p = (ks, ap (λ j. j ∷ ks) (sym c.0))

ended : (n : ℕ) (at : ℕ → Slot) (h : ℕ) (ks : List ℕ) → Chain at h ks → AllByRecursion (SlotNumber n) ks → h ≡ 0 → ks ≡ []
ended n at h [] c r z = refl
ended n at h (k ∷ ks) c r z = absurd (omega (arith, c.0, r.0.0))

module _ (s : Stored) (law : Lawful s) where
  abbrev at : ℕ → Slot
  at = slot_of s.octets

  abbrev h : Heads
  h = s.heads

  -- the memory with other octets and heads
  abbrev then : List ℕ → ℕ → ℕ → ℕ → Stored
  then o first last free = record { octets = o; heads = record { slots = h.slots; first = first; last = last; free = free } }

  range : AllByRecursion (SlotNumber h.slots) (waiting_slots s) × AllByRecursion (SlotNumber h.slots) (free_slots s)
  range = all_parts (SlotNumber h.slots) (waiting_slots s) (free_slots s) law.linked.slots.range

  within : (k : ℕ) → SlotNumber h.slots k → Within s.octets k
  within k n = let f = law.fits in (omega arith, omega arith)

  length_held : length (held s) ≡ length (waiting_slots s)
  unfolding held
  length_held = length-map (waiting_slots s) (λ k. (at k).message)

  all_sized : AllByRecursion Sized (held s)
  unfolding held
  all_sized = law.linked.sized

  -- a message waits

  module _ (p : 0 < h.first) where
    some_first : (ws : List ℕ) × (waiting_slots s ≡ h.first ∷ ws)
    some_first = starts at h.first (waiting_slots s) law.linked.waits p

    pub first_within : Within s.octets h.first
    first_within = within h.first (subst (AllByRecursion (SlotNumber h.slots)) some_first.1 range.0).0

    some_last : (us : List ℕ) × (waiting_slots s ≡ us ++ h.last ∷ [])
    some_last =
        let r = split_last h.first some_first.0 in
        let e = subst (λ ks. last_or h.last ks ≡ h.last) some_first.1 law.linked.last in
        (r.0, some_first.1 ∙ (r.1 ∙ ap (λ l. r.0 ++ l ∷ []) e))

    pub last_within : Within s.octets h.last
    last_within =
        let all = subst (AllByRecursion (SlotNumber h.slots)) some_last.1 range.0 in
        within h.last (all_parts (SlotNumber h.slots) some_last.0 (h.last ∷ []) all).1.0

    held_first : held s ≡ (at h.first).message ∷ messages at some_first.0
    unfolding held
    held_first = ap (messages at) some_first.1

    pub first_sized : Sized (at h.first).message
    first_sized = (subst (AllByRecursion Sized) held_first all_sized).0

    pub takes : (o : List ℕ) (f : ℕ) → length o ≡ length s.octets → f ≡ (at h.first).next
        → Changed at (slot_of o) h.first (record { next = h.free; message = (at h.first).message })
        → Lawful (then o f h.last h.first)
        × ((buffer buffer' : List ℕ) (n : ℕ) → n ≡ length (at h.first).message
        → buffer' ≡ brought_in (Some (at h.first).message) buffer
        → Takes s (then o f h.last h.first) buffer buffer' (Some n))
    takes o f long e join =
        let linked = subst (λ ks. Linked at h ks (free_slots s)) some_first.1 law.linked in
        let f = fetched at (slot_of o) h h.first some_first.0 (free_slots s) linked join in
        let r = settled (then o (at h.first).next h.last h.first) some_first.0 (h.first ∷ free_slots s)
        (omega (arith, law.fits)) f.0 in
        rw e (
          r.0,
          λ buffer buffer' n size leaves.
              record {
                lawful = r.0;
                slots = refl;
                holds = r.1 ∙ (f.1 ∙ sym (ap rest_of held_first));
                answers = ap Some size ∙ sym (ap (λ ms. length_of (first_of ms)) held_first);
                leaves = leaves ∙ sym (ap (λ ms. brought_in (first_of ms) buffer) held_first);
                sized = all_sized;
              },
        )

  -- no message waits

  pub takes_none : (buffer : List ℕ) → h.first ≡ 0 → Takes s s buffer buffer None
  unfolding held
  takes_none buffer z =
      let none : held s ≡ [] = ap (messages at) (ended h.slots at h.first (waiting_slots s) law.linked.waits range.0 z) in
      record {
        lawful = law;
        slots = refl;
        holds = none ∙ sym (ap rest_of none);
        answers = sym (ap (λ ms. length_of (first_of ms)) none);
        leaves = sym (ap (λ ms. brought_in (first_of ms) buffer) none);
        sized = all_sized;
      }

  -- no slot is free

  pub stays_full : (m : Message) → h.free ≡ 0 → Appends s s m (Err Full)
  stays_full m z =
      let none = ended h.slots at h.free (free_slots s) law.linked.frees range.1 z in
      let count = simp length-append at law.linked.slots.count in
      let full : crowded s ≡ true = eq-eqb (length (held s)) h.slots (omega (arith, ap length none, length_held)) in
      record {
        lawful = law;
        slots = refl;
        holds = sym (cond-true (crowded s) (held s) (held s ++ m ∷ []) full);
        answers = sym (cond-true (crowded s) (Err Full) (Ok tt) full);
      }

  -- a slot is free

  module _ (p : 0 < h.free) where
    some_free : (fs : List ℕ) × (free_slots s ≡ h.free ∷ fs)
    some_free = starts at h.free (free_slots s) law.linked.frees p

    abbrev fs : List ℕ
    fs = some_free.0

    free_linked : Linked at h (waiting_slots s) (h.free ∷ fs)
    free_linked = subst (λ ks. Linked at h (waiting_slots s) ks) some_free.1 law.linked

    pub free_within : Within s.octets h.free
    free_within = within h.free (subst (AllByRecursion (SlotNumber h.slots)) some_free.1 range.1).0

    -- a lawful memory that holds one message more
    grows : (b : Stored) (m : Message) → Lawful b → b.heads.slots ≡ h.slots → held b ≡ held s ++ m ∷ [] → Appends s b m (Ok tt)
    grows b m l e holds =
        let count = simp length-append at free_linked.slots.count in
        let room : crowded s ≡ false = ne_eqb (length (held s)) h.slots (λ z. omega (arith, length_held)) in
        record {
          lawful = l;
          slots = e;
          holds = holds ∙ sym (cond-false (crowded s) (held s) (held s ++ m ∷ []) room);
          answers = sym (cond-false (crowded s) (Err Full) (Ok tt) room);
        }

    module _ (m : Message) (sized : Sized m) (f : ℕ) (e : f ≡ (at h.free).next) where
      pub appends_first : (o : List ℕ) → length o ≡ length s.octets → h.first ≡ 0
          → Changed at (slot_of o) h.free (record { next = 0; message = m }) → Appends s (then o h.free h.free f) m (Ok tt)
      unfolding held
      appends_first o long z fill =
          let none = ended h.slots at h.first (waiting_slots s) law.linked.waits range.0 z in
          let linked = subst (λ ks. Linked at h ks (h.free ∷ fs)) none free_linked in
          let b = then o h.free h.free (at h.free).next in
          let r = settled b (h.free ∷ []) fs (omega (arith, law.fits)) (placed_first at (slot_of o) h h.free fs m sized fill linked) in
          rw e (grows b m r.0 refl
          (r.1 ∙ (ap (λ (x : Slot). x.message ∷ []) fill.this ∙ ap (λ ks. messages at ks ++ m ∷ []) (sym none))))

      pub appends_next : (o o' : List ℕ) → length o' ≡ length s.octets → 0 < h.first
          → Changed at (slot_of o) h.free (record { next = 0; message = m })
          → Changed (slot_of o) (slot_of o') h.last (record { next = h.free; message = (slot_of o h.last).message })
          → Appends s (then o' h.first h.free f) m (Ok tt)
      unfolding held
      appends_next o o' long q fill join =
          let us = (some_last q).0 in
          let linked = subst (λ ks. Linked at h ks (h.free ∷ fs)) (some_last q).1 free_linked in
          let b = then o' h.first h.free (at h.free).next in
          let r = settled b ((us ++ h.last ∷ []) ++ h.free ∷ []) fs (omega (arith, law.fits))
          (placed_next at (slot_of o) h h.free fs m sized fill (slot_of o') us h.last linked join) in
          rw e (grows b m r.0 refl
          (r.1 ∙ (appended at (slot_of o) h h.free fs m sized fill (slot_of o') us h.last linked join
          ∙ ap (λ ks. messages at ks ++ m ∷ []) (sym (some_last q).1))))
