-- The numbers that stand in messages.
use Rattle.std.proofs.Common.{◌≡◌, ℕ, zero, suc, ◌^◌, ◌<◌, ◌≤◌, Bool, true, false, eqb, [], ◌∷◌, ◌++◌, take, drop, refl, inl, inr, pow-suc, arith, lit<}
use Rattle.message.specs.Flags.{request_octet}
use Rattle.record.specs.Octets.{bit}
use Rattle.record.specs.OctetsLemmas.{un_le, octets_le, octets_append}
use Rattle.std.proofs.lemmas.Bool.{and_parts, cases_Bool, eqb-true}
use Rattle.link.specs.Words.{Message, Octets, Request}
use Rattle.link.specs.Words.{all_zero, le, request_octets, u32_at, un}

octets_drop : (k : ℕ) (m : Message) → Octets m → Octets (drop k m)
octets_drop zero m o = o
octets_drop (suc k) [] o = o
octets_drop (suc k) (x ∷ m) o = octets_drop k m o.1

un_small : (k : ℕ) (m : Message) → Octets m → un (take k m) < 256 ^ k
un_small zero m o = lit< tt
un_small (suc k) [] o = rw pow-suc (omega (arith, un_small k [] tt))
un_small (suc k) (x ∷ m) o = rw pow-suc (omega (arith, un_small k m o.1, o.0))

-- a number that is read from octets has 32 bits
pub number_small : (m : Message) (at : ℕ) → Octets m → u32_at m at < 2 ^ 32
unfolding u32_at
number_small m at o = un_small 4 (drop at m) (octets_drop at m o)

zero_drop : (k : ℕ) (m : Message) → all_zero m ≡ true → all_zero (drop k m) ≡ true
zero_drop zero m e = e
zero_drop (suc k) [] e = e
zero_drop (suc k) (x ∷ m) e = zero_drop k m (and_parts (eqb x 0) (all_zero m) e).1

zero_un : (k : ℕ) (m : Message) → all_zero m ≡ true → un (take k m) ≡ 0
zero_un zero m e = refl
zero_un (suc k) [] e = refl
zero_un (suc k) (x ∷ m) e =
    let (head, tail) = and_parts (eqb x 0) (all_zero m) e in omega (arith, eqb-true x 0 head, zero_un k m tail)

-- a message with a number of 256 or more is not all zero
pub not_zero : (m : Message) (at : ℕ) → 256 ≤ u32_at m at → all_zero m ≡ false
unfolding u32_at
not_zero m at least = elim (cases_Bool (all_zero m)) [
  | inl e ↦ absurd (omega (arith, zero_un 4 (drop at m) (zero_drop at m e)))
  | inr e ↦ e
]

bit_small : (b : Bool) → bit b < 2
bit_small true = lit< tt
bit_small false = lit< tt

pub request_small : (q : Request) → Octets (request_octets q)
request_small q =
    let error = bit_small q.flags.communication_error in
    let wish = bit_small q.flags.operator_ack_requested in
    let mark = bit_small q.flags.fsv_activated in
    let flags : request_octet q.flags < 256 = omega arith in
    let consumer = le 4 q.consumer_id in
    let number = le 4 q.monitoring_number in
    let numbers = octets_append consumer number (octets_le 4 q.consumer_id) (octets_le 4 q.monitoring_number) in
    octets_append (consumer ++ number) (request_octet q.flags ∷ []) numbers (flags, tt)

-- both numbers of a request are read back
pub request_consumer : (q : Request) → q.consumer_id < 2 ^ 32 → u32_at (request_octets q) 0 ≡ q.consumer_id
unfolding u32_at
request_consumer q h = un_le 4 q.consumer_id h

pub request_number : (q : Request) → q.monitoring_number < 2 ^ 32 → u32_at (request_octets q) 4 ≡ q.monitoring_number
unfolding u32_at
request_number q h = un_le 4 q.monitoring_number h
