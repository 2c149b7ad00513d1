-- A memory whose slots are all free.
use Rattle.std.proofs.Common.{◌≡◌, ℕ, zero, suc, ◌+◌, ◌*◌, ◌≤◌, ◌≢◌, List, [], ◌∷◌, length, sym, refl, ap, subst, arith}
use Rattle.std.specs.List.{AllByRecursion}
use Rattle.calling.specs.Chains.{Chain, Distinct, Lawful, SlotNumber, Stored, held, no_slots}
use Rattle.calling.specs.Slots.{Slot, Changed, slot_octets, slot_of}
use Rattle.calling.proofs.Changes.{chain_stands}
use Rattle.calling.proofs.Stores.{settled}
use Rattle.carrier.specs.Lanes.{Message}

-- the n numbers after k
abbrev pub after : ℕ → ℕ → List ℕ
after zero k = []
after (suc n) k = suc k ∷ after n (suc k)

apart : (n b k : ℕ) → b ≤ k → AllByRecursion (λ j. j ≢ b) (after n k)
apart zero b k h = tt
apart (suc n) b k h = ((λ e. omega arith), apart n b (suc k) (omega arith))

distinct : (n k : ℕ) → Distinct (after n k)
distinct zero k = tt
distinct (suc n) k = (apart n (suc k) (suc k) (omega arith), distinct n (suc k))

ranges : (n k b : ℕ) → n + k ≤ b → AllByRecursion (SlotNumber b) (after n k)
ranges zero k b h = tt
ranges (suc n) k b h = ((omega arith, omega arith), ranges n (suc k) b (omega arith))

counts : (n k : ℕ) → length (after n k) ≡ n
counts zero k = refl
counts (suc n) k = ap suc (counts n (suc k))

-- slot k goes to the front of those after it
pub one_more : (at at' : ℕ → Slot) (n j k head : ℕ) (m : Message) → k ≡ suc j → Chain at head (after n k)
    → Changed at at' k (record { next = head; message = m }) → Chain at' k (after (suc n) j)
one_more at at' n j k head m e c join =
    let says : Slot = record { next = head; message = m } in
    let here = subst (λ i. Changed at at' i says) e join in
    let rest = chain_stands at at' (suc j) says here head (after n (suc j)) (apart n (suc j) (suc j) (omega arith))
    (subst (λ i. Chain at head (after n i)) e c) in
    (e, subst (λ i. Chain at' i (after n (suc j))) (sym (ap (λ (s : Slot). s.next) here.this)) rest)

-- n slots in use, none of which waits
abbrev none_waits : List ℕ → ℕ → ℕ → Stored
none_waits o n head = record { octets = o; heads = record { slots = n; first = 0; last = 0; free = head } }

all_free : (o : List ℕ) (n head : ℕ) → n * slot_octets ≤ length o → Chain (slot_of o) head (after n 0)
    → Lawful (none_waits o n head) × (held (none_waits o n head) ≡ [])
all_free o n head fits c =
    settled (none_waits o n head) [] (after n 0) fits
    (record {
      waits = refl;
      frees = c;
      slots = record { range = ranges n 0 n (omega arith); apart = distinct n 0; count = counts n 0 };
      last = refl;
      sized = tt;
    })

pub all_chained : (o : List ℕ) (n k head : ℕ) → n * slot_octets ≤ length o → k ≡ 0
    → (i : ℕ) × (i + k ≡ n) × Chain (slot_of o) head (after i k)
    → Lawful (none_waits o n head) × (held (none_waits o n head) ≡ [])
all_chained o n zero head fits z i =
    all_free o n head fits (subst (λ j. Chain (slot_of o) head (after j 0)) (omega (arith, i.1)) i.2)
all_chained o n (suc k) head fits z i = absurd (omega arith)

-- where no slot is in use, there is none to chain
pub unused : (o : List ℕ) → Lawful (record { octets = o; heads = no_slots }) × (held (record { octets = o; heads = no_slots }) ≡ [])
unused o = all_free o 0 0 (omega arith) refl
