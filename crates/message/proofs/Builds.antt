-- A message grows at the start of a buffer, field by field.
use Rattle.std.proofs.Common.{◌≡◌, ℕ, suc, ◌+◌, ◌-◌, ◌≤◌, true, false, ltb, List, [], ◌∷◌, ◌++◌, length, take, drop, set, Ok, sym, refl, ap, ◌∙◌, arith}
use native.Mathlib.Nat.{sub-zero}
use Rattle.std.proofs.lemmas.List.{append_assoc, length-append, length-take-le, set_split, take_at, drop_at, drop-drop}
use Rattle.std.proofs.lemmas.Bool.{le-ltb}
use Rattle.message.specs.declared.identity.Identities.{Identities}
use Rattle.message.specs.declared.parameters.Parameters.{Parameters}
use Rattle.message.specs.declared.response.BuildRefusal.TheVariants.{ShortBuffer, UnsoundRecord}
use Rattle.message.specs.declared.response.Response.{Response}
use Rattle.message.specs.Flags.{response_octet}
use Rattle.message.specs.Identity.{identities_of}
use Rattle.message.specs.Layout.{written}
use Rattle.message.specs.Response.{trailer, with_signature, longest, response_octets, build_answer, built}
use Rattle.record.specs.Calls.{encode_answer, encoded}
use Rattle.record.specs.Kind.{Format, Lawful}
use Rattle.record.specs.Octets.{le}
use Rattle.record.specs.Results.{ok_past, ok_at, ok_is}
use Rattle.record.proofs.Trips.{had_room}
use Rattle.signature.specs.Signature.{signature}

-- a buffer with octets at its start
abbrev pub fronted : List ℕ → List ℕ → List ℕ
fronted s d = s ++ drop (length s) d

-- octets written right behind those at the start
next : (d s t b b2 : List ℕ) (n : ℕ) → b ≡ fronted s d → n ≡ length s → b2 ≡ written b n t → b2 ≡ fronted (s ++ t) d
next d s t b b2 n e k w =
    let front : take n b ≡ s = rw e (take_at s (drop (length s) d) n (sym k)) in
    let back : drop n b ≡ drop (length s) d = rw e (drop_at s (drop (length s) d) n (sym k)) in
    let rest : drop (n + length t) b ≡ drop (length (s ++ t)) d =
    sym (drop-drop (length t) n b) ∙ ap (drop (length t)) back ∙ drop-drop (length t) (length s) d
    ∙ ap (λ m. drop m d) (sym (length-append s t)) in
    w ∙ ap (λ x. x ++ (t ++ drop (n + length t) b)) front ∙ ap (λ x. s ++ (t ++ x)) rest
    ∙ sym (append_assoc s t (drop (length (s ++ t)) d))

-- the fields that follow a record, one after the other
module _ (d : List ℕ) (n flags : ℕ) (room : n + 25 ≤ length d) where
  -- the record, the flags and what follows them
  abbrev grown : List ℕ → List ℕ
  grown tail = take n d ++ flags ∷ tail

  grown_length : (tail : List ℕ) → length (grown tail) ≡ n + suc (length tail)
  grown_length tail = length-append (take n d) (flags ∷ tail) ∙ ap (λ k. k + suc (length tail)) (length-take-le n d (omega arith))

  start : set d n flags ≡ fronted (grown []) d
  start =
      set_split d n flags (omega arith) ∙ sym (append_assoc (take n d) (flags ∷ []) (drop (suc n) d))
      ∙ ap (λ k. grown [] ++ drop k d) {x = suc n} (omega (arith, grown_length []))

  field : (tail t b b2 : List ℕ) (m : ℕ) → b ≡ fronted (grown tail) d → m ≡ n + suc (length tail) → b2 ≡ written b m t
      → b2 ≡ fronted (grown (tail ++ t)) d
  field tail t b b2 m e k w =
      next d (grown tail) t b b2 m e (k ∙ sym (grown_length tail)) w
      ∙ ap (λ x. fronted x d) (append_assoc (take n d) (flags ∷ tail) t)

  signed : (tail b b2 : List ℕ) (crc : ℕ) → length tail ≡ 20 → b ≡ fronted (grown tail) d → crc ≡ signature (take (n + 21 - 0) b)
      → b2 ≡ written b (n + 21) (le 4 crc) → b2 ≡ with_signature (grown tail) ++ drop (n + 25) d
  unfolding with_signature
  signed tail b b2 crc k e hc w =
      let s = grown tail in
      let long : length s ≡ n + 21 = grown_length tail ∙ ap (λ m. n + suc m) k in
      let covered : take (n + 21 - 0) b ≡ s = rw (sub-zero, e) (take_at s (drop (length s) d) (n + 21) long) in
      let all : length (s ++ le 4 crc) ≡ n + 25 = length-append s (le 4 crc) ∙ omega (arith, long) in
      next d s (le 4 crc) b b2 (n + 21) e (sym long) w
      ∙ ap (λ m. (s ++ le 4 crc) ++ drop m d) all
      ∙ ap (λ x. (s ++ le 4 x) ++ drop (n + 25) d) (hc ∙ ap signature covered)

  pub finished : (ids : Identities) (consumer number : ℕ) (b1 b2 b3 b4 b5 b6 : List ℕ) (crc : ℕ)
      → b1 ≡ written (set d n flags) (n + 1) (le 4 ids.first) → b2 ≡ written b1 (n + 5) (le 4 ids.second)
      → b3 ≡ written b2 (n + 9) (le 4 ids.third) → b4 ≡ written b3 (n + 13) (le 4 consumer)
      → b5 ≡ written b4 (n + 17) (le 4 number) → crc ≡ signature (take (n + 21 - 0) b5) → b6 ≡ written b5 (n + 21) (le 4 crc)
      → b6 ≡ with_signature (take n d ++ trailer flags ids consumer number) ++ drop (n + 25) d
  finished ids consumer number b1 b2 b3 b4 b5 b6 crc h1 h2 h3 h4 h5 hc h6 =
      let one : List ℕ = le 4 ids.first in
      let two : List ℕ = one ++ le 4 ids.second in
      let three : List ℕ = two ++ le 4 ids.third in
      let four : List ℕ = three ++ le 4 consumer in
      let e1 = field [] one (set d n flags) b1 (n + 1) start refl h1 in
      let e2 = field one (le 4 ids.second) b1 b2 (n + 5) e1 refl h2 in
      let e3 = field two (le 4 ids.third) b2 b3 (n + 9) e2 refl h3 in
      let e4 = field three (le 4 consumer) b3 b4 (n + 13) e3 refl h4 in
      let e5 = field four (le 4 number) b4 b5 (n + 17) e4 refl h5 in
      signed (four ++ le 4 number) b5 b6 crc refl e5 hc h6

-- a response is built of a record that was encoded
module _ {R : Type 0} (f : Format R) (laws : Lawful f) (p : Parameters) (r : Response R) (d : List ℕ) (u : Unit)
    (large : longest ≤ length d) (ok : encode_answer f r.safety_data d ≡ Ok u) (n : ℕ) (is : n ≡ f.len) where
  sound : f.sound r.safety_data ≡ true
  sound = (had_room f laws r.safety_data d u ok).1

  pub build_ok : Ok (n + 25) ≡ build_answer f r d
  build_ok = simp (le-ltb (length d) longest large, sound) (ap (λ k. Ok (k + 25)) is)

  pub build_done : (b b2 : List ℕ) (ids : Identities) → b ≡ encoded f r.safety_data d → ids ≡ identities_of f p
      → b2 ≡ with_signature (take n b ++ trailer (response_octet r.flags) ids r.consumer_id r.monitoring_number) ++ drop (n + 25) b
      → b2 ≡ built f p r d
  build_done b b2 ids e hi w =
      let few = laws.few in
      let s = f.octets r.safety_data in
      let long : length s ≡ n = laws.whole r.safety_data sound ∙ sym is in
      let at : b ≡ s ++ drop n d = e ∙ simp (le-ltb (length d) f.len (omega arith), sound) (ap (λ k. s ++ drop k d) (sym is)) in
      let front : take n b ≡ s = rw at (take_at s (drop n d) n long) in
      let rest : drop (n + 25) b ≡ drop (n + 25) d =
      sym (drop-drop 25 n b) ∙ ap (λ x. drop 25 (drop n x)) at ∙ ap (drop 25) (drop_at s (drop n d) n long) ∙ drop-drop 25 n d in
      let all : b2 ≡ response_octets f p r ++ drop (n + 25) d = rw (front, rest, hi) at w in
      simp (le-ltb (length d) longest large, sound) (all ∙ ap (λ k. response_octets f p r ++ drop (k + 25) d) is)

-- a response has 25 octets more than its record
pub response_long : {R : Type 0} (f : Format R) (laws : Lawful f) (p : Parameters) (r : Response R) → f.sound r.safety_data ≡ true
    → length (response_octets f p r) ≡ f.len + 25
unfolding with_signature
response_long f laws p r ok =
    let s = f.octets r.safety_data in
    let whole = laws.whole r.safety_data ok in
    let t = trailer (response_octet r.flags) (identities_of f p) r.consumer_id r.monitoring_number in
    length-append (s ++ t) (le 4 (signature (s ++ t))) ∙ ap (λ n. n + 4) (length-append s t) ∙ omega (arith, whole)

-- where a response was built, it stands at the start of the buffer, from the first octet to the last
module _ {R : Type 0} (f : Format R) (laws : Lawful f) (p : Parameters) (r : Response R) (d b : List ℕ) (end : ℕ)
    (ok : build_answer f r d ≡ Ok end) (is : b ≡ built f p r d) where
  pub built_large : ltb (length d) longest ≡ false
  built_large = (ok_past (ltb (length d) longest) ShortBuffer _ end ok).0

  sound_and_end : (f.sound r.safety_data ≡ true) × (f.len + 25 ≡ end)
  sound_and_end =
      let rest = (ok_past (ltb (length d) longest) ShortBuffer _ end ok).1 in
      let e = ok_at (f.sound r.safety_data) UnsoundRecord (Ok (f.len + 25)) end rest in
      (e.0, ok_is e.1)

  pub built_sound : f.sound r.safety_data ≡ true
  built_sound = sound_and_end.0

  pub built_start : b ≡ response_octets f p r ++ drop (f.len + 25) d
  built_start = is ∙ simp (built_large, sound_and_end.0)

  pub built_message : take (end - 0) b ≡ response_octets f p r
  built_message =
      let whole = response_long f laws p r sound_and_end.0 in
      rw (sub-zero, built_start) (take_at (response_octets f p r) (drop (f.len + 25) d) end (whole ∙ sound_and_end.1))
