-- A response that was built is read back.
use Rattle.std.proofs.Common.{◌≡◌, ℕ, zero, suc, ◌+◌, ◌-◌, ◌*◌, ◌^◌, ◌<◌, Bool, true, false, cond, eqb, List, [], ◌∷◌, ◌++◌, length, get_or, take, drop, Ok, Err, sym, refl, ap, ◌∙◌, add-zero, arith, lit<}
use lib.Bits.{bit_xor, xor_lt}
use Rattle.std.proofs.lemmas.List.{append_assoc, length-append, take_at, drop_at, drop-drop, get_or-drop}
use Rattle.std.proofs.lemmas.Bool.{eq-eqb, cond_both}
use Rattle.message.specs.declared.fault.MessageFault.TheVariants.{Consumer}
use Rattle.message.specs.declared.parameters.Parameters.{Parameters}
use Rattle.message.specs.declared.response.Response.{Response}
use Rattle.message.specs.Check.{checked, carried, record_read}
use Rattle.message.specs.Flags.{response_octet, response_flags, flag_octet}
use Rattle.message.specs.Identity.{level_codes, identity_1, identity_2, identity_3, identities_of}
use Rattle.message.specs.Layout.{u32_at}
use Rattle.message.specs.Response.{trailer, with_signature, response_octets}
use Rattle.record.specs.Kind.{Format, Lawful}
use Rattle.record.specs.Octets.{Octets, le, un, bit}
use Rattle.record.specs.OctetsLemmas.{un_le, octets_le, octets_append}
use Rattle.signature.specs.Signature.{octet_step, remainder, signature}
use Rattle.signature.proofs.Register.{bit_steps_lt}
use Rattle.message.proofs.Builds.{response_long}

-- three flags go into an octet and back
flags_back : (a b c : Bool)
    → response_flags (flag_octet a b c) ≡ record { operator_ack_provider = a; activate_fsv = b; test_mode_activated = c }
flags_back true true true = refl
flags_back true true false = refl
flags_back true false true = refl
flags_back true false false = refl
flags_back false true true = refl
flags_back false true false = refl
flags_back false false true = refl
flags_back false false false = refl

bit_low : (b : Bool) → bit b < 2
bit_low true = lit< tt
bit_low false = lit< tt

word : (x : ℕ) (t : List ℕ) → Octets t → Octets (le 4 x ++ t)
word x t o = octets_append (le 4 x) t (octets_le 4 x) o

-- the signature of octets has 32 bits
octet_step_lt : (r o : ℕ) → r < 2 ^ 32 → o < 256 → octet_step r o < 2 ^ 32
unfolding octet_step
octet_step_lt r o hr ho = bit_steps_lt 8 (bit_xor r (o * 2 ^ 24)) (xor_lt 32 r (o * 2 ^ 24) hr (omega arith))

remainder_lt : (s : List ℕ) → Octets s → remainder s < 2 ^ 32
remainder_lt [] o = lit< tt
remainder_lt (x ∷ xs) o = octet_step_lt (remainder xs) x (remainder_lt xs o.1) o.0

signature_lt : (s : List ℕ) → Octets s → signature s < 2 ^ 32
signature_lt s o = cond_both (eqb (remainder s) 0) 1 (remainder s) (λ x. x < 2 ^ 32) (λ e. lit< tt) (λ e. remainder_lt s o)

-- the identity numbers have 32 bits
code_lt : (k : ℕ) → get_or level_codes k 0 < 2 ^ 32
code_lt zero = lit< tt
code_lt (suc zero) = lit< tt
code_lt (suc (suc zero)) = lit< tt
code_lt (suc (suc (suc zero))) = lit< tt
code_lt (suc (suc (suc (suc k)))) = lit< tt

-- a field of a message behind the record
pub field_at : (p q : List ℕ) (n k : ℕ) → length p ≡ n → u32_at (p ++ q) (n + k) ≡ u32_at q k
unfolding u32_at
field_at p q n k e = ap (λ x. un (take 4 x)) (sym (drop-drop k n (p ++ q)) ∙ ap (drop k) (drop_at p q n e))

module _ {R : Type 0} (f : Format R) (laws : Lawful f) (p : Parameters) (r : Response R) (sound : f.sound r.safety_data ≡ true)
    (few_consumer : r.consumer_id < 2 ^ 32) (few_number : r.monitoring_number < 2 ^ 32) (m : List ℕ) (is : m ≡ response_octets f p r) where
  n : ℕ
  n = f.len

  front : List ℕ
  front = f.octets r.safety_data

  tail : List ℕ
  tail = trailer (response_octet r.flags) (identities_of f p) r.consumer_id r.monitoring_number

  crc : ℕ
  crc = signature (front ++ tail)

  whole : length front ≡ n
  unfolding front n
  whole = laws.whole r.safety_data sound

  split : m ≡ front ++ (tail ++ le 4 crc)
  unfolding front tail crc with_signature
  split = is ∙ append_assoc front tail (le 4 crc)

  pub long : length m ≡ f.len + 25
  long = ap length is ∙ response_long f laws p r sound

  -- what the signature covers
  covered : take (n + 21) m ≡ front ++ tail
  unfolding tail
  covered =
      ap (take (n + 21)) (split ∙ sym (append_assoc front tail (le 4 crc)))
      ∙ take_at (front ++ tail) (le 4 crc) (n + 21) (length-append front tail ∙ omega (arith, whole))

  octets : Octets (front ++ tail)
  unfolding front tail
  octets =
      let a = bit_low r.flags.operator_ack_provider in
      let b = bit_low r.flags.activate_fsv in
      let c = bit_low r.flags.test_mode_activated in
      let flags : response_octet r.flags < 256 = omega arith in
      let ids = identities_of f p in
      let t1 : List ℕ = le 4 r.consumer_id ++ le 4 r.monitoring_number in
      let t2 : List ℕ = le 4 ids.third ++ t1 in
      let t3 : List ℕ = le 4 ids.second ++ t2 in
      octets_append front tail (laws.small r.safety_data sound) (
        flags,
        word ids.first t3 (word ids.second t2 (word ids.third t1
            (word r.consumer_id (le 4 r.monitoring_number) (octets_le 4 r.monitoring_number)))),
      )

  -- a field holds its number
  at_place : (k x : ℕ) → x < 2 ^ 32 → u32_at (tail ++ le 4 crc) k ≡ un (le 4 x) → u32_at m (n + k) ≡ x
  at_place k x h e =
      ap (λ y. u32_at y (n + k)) split ∙ field_at front (tail ++ le 4 crc) n k whole ∙ e ∙ un_le 4 x h

  pub first_is : u32_at m (f.len + 1) ≡ identity_1 p
  unfolding n tail u32_at
  first_is = at_place 1 (identity_1 p) (xor_lt 32 p.base_id.w1 _ p.base_id.w1_fits (code_lt (p.level - 1))) refl

  pub second_is : u32_at m (f.len + 5) ≡ identity_2 f p
  unfolding n tail u32_at
  second_is = at_place 5 (identity_2 f p) (xor_lt 32 p.base_id.w2 f.structure p.base_id.w2_fits laws.signed) refl

  pub third_is : u32_at m (f.len + 9) ≡ identity_3 p
  unfolding n tail u32_at
  third_is =
      let words = xor_lt 32 p.base_id.w3 p.base_id.w4 p.base_id.w3_fits p.base_id.w4_fits in
      at_place 9 (identity_3 p) (xor_lt 32 (bit_xor p.base_id.w3 p.base_id.w4) p.provider_id words p.provider_fits) refl

  pub consumer_is : u32_at m (f.len + 13) ≡ r.consumer_id
  unfolding n tail u32_at
  consumer_is = at_place 13 r.consumer_id few_consumer refl

  pub number_is : u32_at m (f.len + 17) ≡ r.monitoring_number
  unfolding n tail u32_at
  number_is = at_place 17 r.monitoring_number few_number refl

  pub signature_is : u32_at m (f.len + 21) ≡ signature (take (f.len + 21) m)
  unfolding n tail crc u32_at
  signature_is = at_place 21 crc (signature_lt (front ++ tail) octets) refl ∙ ap signature (sym covered)

  pub flags_is : response_flags (get_or m f.len 0) ≡ r.flags
  unfolding n tail
  flags_is =
      ap (λ y. response_flags (get_or y n 0)) split
      ∙ ap response_flags (sym (ap (λ k. get_or (front ++ (tail ++ le 4 crc)) k 0) (add-zero n)) ∙ sym (get_or-drop n (front ++ (tail ++ le 4 crc)) 0 0))
      ∙ ap (λ y. response_flags (get_or y 0 0)) (drop_at front (tail ++ le 4 crc) n whole)
      ∙ flags_back r.flags.operator_ack_provider r.flags.activate_fsv r.flags.test_mode_activated

  pub record_is : record_read f m ≡ Ok r.safety_data
  unfolding n front
  record_is =
      rw (eq-eqb (length m) (f.len + 25) long)
      (ap (λ y. carried (f.parsed (take n y))) split ∙ ap (λ y. carried (f.parsed y)) (take_at front (tail ++ le 4 crc) n whole)
      ∙ ap carried (laws.read_back r.safety_data sound))

  -- such a response passes every check, unless it is for another consumer
  pub checked_is : checked f p m ≡ cond (eqb r.consumer_id p.consumer_id)
      (Ok (record { monitoring_number = r.monitoring_number; flags = r.flags })) (Err (Consumer (f.len + 13)))
  checked_is =
      let h = eq-eqb (length m) (f.len + 25) long in
      let s = eq-eqb (u32_at m (f.len + 21)) (signature (take (f.len + 21) m)) signature_is in
      let a = eq-eqb (u32_at m (f.len + 1)) (identity_1 p) first_is in
      let b = eq-eqb (u32_at m (f.len + 5)) (identity_2 f p) second_is in
      let c = eq-eqb (u32_at m (f.len + 9)) (identity_3 p) third_is in
      simp (h, s, a, b, c, consumer_is, number_is, flags_is)
