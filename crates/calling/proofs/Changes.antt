-- Chains, where slots change.
use Rattle.std.proofs.Common.{◌≡◌, ℕ, zero, suc, ◌≤◌, Bool, false, cond, eqb, ◌≢◌, List, [], ◌∷◌, ◌++◌, map, length, sym, refl, ap, ◌∙◌, subst, ⊎_elim, append_assoc, arith, length-append}
use Rattle.std.specs.List.{AllByRecursion}
use Rattle.std.proofs.ByRecursion.{All-push}
use Rattle.std.proofs.lemmas.List.{map_push}
use Rattle.std.proofs.lemmas.Bool.{ne_eqb, cases_eq}
use Rattle.calling.specs.declared.chains.Heads.{Heads}
use Rattle.calling.specs.Chains.{Chain, Distinct, Linked, SlotNumber, Once, Sized, last_or, messages, met}
use Rattle.calling.specs.Slots.{Slot, Changed}
use Rattle.carrier.specs.Lanes.{Message}

-- what is met is the chain
pub met_is : (n b : ℕ) (at : ℕ → Slot) (h : ℕ) (ks : List ℕ) → Chain at h ks → AllByRecursion (SlotNumber b) ks → length ks ≤ n → met n at h ≡ ks
unfolding met
met_is zero b at h [] c r l = refl
met_is zero b at h (k ∷ ks) c r l = absurd (omega arith)
met_is (suc n) b at h [] c r l = rw c
met_is (suc n) b at h (k ∷ ks) c r l =
    let some : eqb h 0 ≡ false = ne_eqb h 0 (λ z. omega (arith, c.0, r.0.0)) in
    ap (λ (t : Bool). cond t [] (h ∷ met n at (at h).next)) some
    ∙ (ap (λ j. j ∷ met n at (at j).next) c.0 ∙ ap (λ js. k ∷ js) (met_is n b at (at k).next ks c.1 r.1 (omega arith)))

-- Lists of slot numbers.

pub all_parts : (P : ℕ → Type 0) (us vs : List ℕ) → AllByRecursion P (us ++ vs) → AllByRecursion P us × AllByRecursion P vs
all_parts P [] vs h = (tt, h)
all_parts P (u ∷ us) vs h = let r = all_parts P us vs h.1 in ((h.0, r.0), r.1)

all_moved : (P : ℕ → Type 0) (k : ℕ) (us vs : List ℕ) → AllByRecursion P (k ∷ (us ++ vs)) → AllByRecursion P (us ++ k ∷ vs)
all_moved P k [] vs h = h
all_moved P k (u ∷ us) vs h = (h.1.0, all_moved P k us vs (h.0, h.1.1))

distinct_moved : (k : ℕ) (us vs : List ℕ) → Distinct (k ∷ (us ++ vs)) → Distinct (us ++ k ∷ vs)
distinct_moved k [] vs h = h
distinct_moved k (u ∷ us) vs h =
    (all_moved (λ j. j ≢ u) k us vs ((λ e. h.0.0 (sym e)), h.1.0), distinct_moved k us vs (h.0.1, h.1.1))

once_moved : (n k : ℕ) (us vs : List ℕ) → Once n (k ∷ (us ++ vs)) → Once n (us ++ k ∷ vs)
once_moved n k us vs o = record {
  range = all_moved (SlotNumber n) k us vs o.range;
  apart = distinct_moved k us vs o.apart;
  count = let h = simp length-append at o.count in simp length-append (omega arith);
}

-- no other slot has the number k
apart_at : (us : List ℕ) (k : ℕ) (vs : List ℕ) → Distinct (us ++ k ∷ vs) → AllByRecursion (λ j. j ≢ k) us × AllByRecursion (λ j. j ≢ k) vs
apart_at [] k vs d = (tt, d.0)
apart_at (u ∷ us) k vs d =
    let r = apart_at us k vs d.1 in
    (((λ e. (all_parts (λ j. j ≢ u) us (k ∷ vs) d.0).1.0 (sym e)), r.0), r.1)

pub split_last : (k : ℕ) (ks : List ℕ) → (us : List ℕ) × (k ∷ ks ≡ us ++ last_or k ks ∷ [])
split_last k [] = ([], refl)
split_last k (j ∷ ks) = let r = split_last j ks in (k ∷ r.0, ap (λ js. k ∷ js) r.1)

last_pushed : (d k : ℕ) (ks : List ℕ) → last_or d (ks ++ k ∷ []) ≡ k
last_pushed d k [] = refl
last_pushed d k (j ∷ ks) = last_pushed j k ks

last_kept : (k l : ℕ) (ks : List ℕ) → last_or k ks ≡ l → last_or l ks ≡ l
last_kept k l [] e = refl
last_kept k l (j ∷ ks) e = e

-- A change of slot k.

abbrev next_of : Slot → ℕ
next_of s = s.next

abbrev message_of : Slot → Message
message_of s = s.message

module _ (at at' : ℕ → Slot) (k : ℕ) (says : Slot) (change : Changed at at' k says) where
  -- chains without k stand, and so do their messages
  pub chain_stands : (h : ℕ) (ks : List ℕ) → AllByRecursion (λ j. j ≢ k) ks → Chain at h ks → Chain at' h ks
  chain_stands h [] n c = c
  chain_stands h (j ∷ ks) n c =
      (c.0, subst (λ z. Chain at' z ks) (sym (ap next_of (change.others j n.0))) (chain_stands (at j).next ks n.1 c.1))

  messages_stand : (ks : List ℕ) → AllByRecursion (λ j. j ≢ k) ks → messages at' ks ≡ messages at ks
  messages_stand [] n = refl
  messages_stand (j ∷ ks) n = cc (change.others j n.0, messages_stand ks n.1)

  -- a chain that ended at k goes on where k says
  chain_on : (h : ℕ) (us vs : List ℕ) → AllByRecursion (λ j. j ≢ k) us → Chain at h (us ++ k ∷ []) → Chain at' (at' k).next vs
      → Chain at' h (us ++ k ∷ vs)
  chain_on h [] vs n c d = (c.0, d)
  chain_on h (j ∷ us) vs n c d = (
    c.0,
    subst (λ z. Chain at' z (us ++ k ∷ vs)) (sym (ap next_of (change.others j n.0))) (chain_on (at j).next us vs n.1 c.1 d),
  )

  -- where only the next number changes, all messages stand
  messages_kept : says.message ≡ (at k).message → (ks : List ℕ) → messages at' ks ≡ messages at ks
  messages_kept e ks = λ i. map (λ j. same j i) ks
    where
      same : (j : ℕ) → (at' j).message ≡ (at j).message
      same j =
          ⊎_elim (λ (h : j ≡ k). subst (λ z. (at' z).message ≡ (at z).message) (sym h) (ap message_of change.this ∙ e))
          (λ n. ap message_of (change.others j n)) (cases_eq j k)

-- A message goes into the first free slot k, which ends a chain then.
module _ (at filled : ℕ → Slot) (h : Heads) (k : ℕ) (fs : List ℕ) (m : Message) (sized : Sized m)
    (fill : Changed at filled k (record { next = 0; message = m })) where
  abbrev end : Slot
  end = record { next = 0; message = m }

  -- none waited: slot k is the first and the last
  pub placed_first : Linked at h [] (k ∷ fs)
      → Linked filled (record { slots = h.slots; first = k; last = k; free = (at k).next }) (k ∷ []) fs
  placed_first linked = record {
    waits = (refl, ap next_of fill.this);
    frees = chain_stands at filled k end fill (at k).next fs linked.slots.apart.0 linked.frees.1;
    slots = linked.slots;
    last = refl;
    sized = (subst Sized (sym (ap message_of fill.this)) sized, tt);
  }

  -- the last slot that waits, l, is linked to slot k
  module _ (joined : ℕ → Slot) (us : List ℕ) (l : ℕ) (linked : Linked at h (us ++ l ∷ []) (k ∷ fs))
      (join : Changed filled joined l (record { next = k; message = (filled l).message })) where
    abbrev on : Slot
    on = record { next = k; message = (filled l).message }

    abbrev ws : List ℕ
    ws = us ++ l ∷ []

    away_k : AllByRecursion (λ j. j ≢ k) ws × AllByRecursion (λ j. j ≢ k) fs
    away_k = apart_at ws k fs linked.slots.apart

    away_l : AllByRecursion (λ j. j ≢ l) us × AllByRecursion (λ j. j ≢ l) (k ∷ fs)
    away_l = apart_at us l (k ∷ fs) (subst Distinct (append_assoc us (l ∷ []) (k ∷ fs)) linked.slots.apart)

    ends : joined k ≡ end
    ends = join.others k away_l.1.0 ∙ fill.this

    pub appended : messages joined (ws ++ k ∷ []) ≡ messages at ws ++ m ∷ []
    appended =
        let kept = messages_kept filled joined l on join refl ws ∙ messages_stand at filled k end fill ws away_k.0 in
        map_push (λ j. (joined j).message) ws k
        ∙ (ap (λ ms. ms ++ (joined k).message ∷ []) kept ∙ ap (λ s. messages at ws ++ message_of s ∷ []) ends)

    pub placed_next : Linked joined (record { slots = h.slots; first = h.first; last = k; free = (at k).next }) (ws ++ k ∷ []) fs
    placed_next = record {
      waits = subst (Chain joined h.first) (sym (append_assoc us (l ∷ []) (k ∷ [])))
          (chain_on filled joined l on join h.first us (k ∷ []) away_l.0
          (chain_stands at filled k end fill h.first ws away_k.0 linked.waits)
          (ap next_of join.this, ap next_of ends));
      frees = chain_stands filled joined l on join (at k).next fs away_l.1.1
          (chain_stands at filled k end fill (at k).next fs away_k.1 linked.frees.1);
      slots = subst (Once h.slots) (sym (append_assoc ws (k ∷ []) fs)) linked.slots;
      last = last_pushed k k ws;
      sized = subst (AllByRecursion Sized) (sym appended) (All-push Sized (messages at ws) m linked.sized sized);
    }

-- The first slot that waits, k, goes to the front of the free ones.
module _ (at at' : ℕ → Slot) (h : Heads) (k : ℕ) (ws fs : List ℕ) (linked : Linked at h (k ∷ ws) fs)
    (change : Changed at at' k (record { next = h.free; message = (at k).message })) where
  abbrev says : Slot
  says = record { next = h.free; message = (at k).message }

  pub fetched : Linked at' (record { slots = h.slots; first = (at k).next; last = h.last; free = k }) ws (k ∷ fs)
      × (messages at' ws ≡ messages at ws)
  fetched =
      let stand = messages_kept at at' k says change refl ws in
      let away = all_parts (λ j. j ≢ k) ws fs linked.slots.apart.0 in (
        record {
          waits = chain_stands at at' k says change (at k).next ws away.0 linked.waits.1;
          frees = (
            refl,
            subst (λ z. Chain at' z fs) (sym (ap next_of change.this))
                (chain_stands at at' k says change h.free fs away.1 linked.frees),
          );
          slots = once_moved h.slots k ws fs linked.slots;
          last = last_kept k h.last ws linked.last;
          sized = subst (AllByRecursion Sized) (sym stand) linked.sized.1;
        },
        stand,
      )
