-- What is known of a message that a cycle accepts.
use Rattle.std.proofs.Common.{◌≡◌, ◌+◌, ◌-◌, Bool, true, false, cond, eqb, ltb, length, Ok, Err, Option, Result, refl, ap, ◌∙◌, arith}
use Rattle.consumer.specs.declared.event.Turn.TheVariants.{Ignored, Accepted}
use Rattle.consumer.specs.declared.fault.CycleFault.{CycleFault}
use Rattle.consumer.specs.declared.fault.CycleFault.TheVariants.{Number}
use Rattle.message.specs.declared.check.Checked.{Checked}
use Rattle.message.specs.declared.fault.MessageFault.{MessageFault}
use Rattle.message.specs.declared.fault.MessageFault.TheVariants.{Length, Signature, Identity, Consumer}
use Rattle.record.specs.Results.{ok_at, ok_is}
use Rattle.std.proofs.lemmas.Bool.{eq-eqb, eqb-true, le-ltb}
use Rattle.link.specs.Runs.{identities_in}
use Rattle.link.specs.Words.{Format, Lawful, Message, Parameters, ResponseFlags, TimedRequest, Turn}
use Rattle.link.specs.Words.{accepted_before, all_zero, checked, identities_of, number_of, record_read, sound, u32_at, judged}
use Rattle.link.specs.Words.{with_number, with_record}

-- a message that answers a request with a record
pub record Fits {R : Type 0} (f : Format R) (p : Parameters) (q : TimedRequest) (m : Message) (r : R) : Type 0 where
  pub sound : sound m ≡ true
  pub long : length m ≡ f.len + 25
  pub identities : identities_in f.len m ≡ identities_of f p
  pub consumer : u32_at m (f.len + 13) ≡ p.consumer_id
  pub number : u32_at m (f.len + 17) ≡ number_of q
  pub value : record_read f m ≡ Ok r

-- an answer is not ignored
not_ignored : {R : Type 0} (z : Bool) (v : Result (Turn R) CycleFault) (r : R) (flags : ResponseFlags)
    → cond z (Ok Ignored) v ≡ Ok (Accepted r flags) → v ≡ Ok (Accepted r flags)
not_ignored true v r flags e = cc
not_ignored false v r flags e = e

record_of : {R : Type 0} (k flags : ResponseFlags) (v : Result R MessageFault) (r : R) → with_record k v ≡ Ok (Accepted r flags) → v ≡ Ok r
record_of k flags (Ok x) r e = cc
record_of k flags (Err fault) r e = cc

module _ {R : Type 0} {f : Format R} (laws : Lawful f) (p : Parameters) (last : Option TimedRequest) (q : TimedRequest) (m : Message) where
  -- a message of a response's length is long enough to be sound, and there its signature begins
  ends : length m ≡ f.len + 25 → (ltb (length m) 26 ≡ false) × (length m - 4 ≡ f.len + 21)
  ends e = (le-ltb (length m) 26 (omega (arith, laws.some)), omega arith)

  fits_checked : (k : Checked) → checked f p m ≡ Ok k → k.monitoring_number ≡ number_of q → (r : R) → record_read f m ≡ Ok r
      → Fits f p q m r
  fits_checked k passed same r value =
      let ids = identities_of f p in
      let (long, k1) = ok_at (eqb (length m) (f.len + 25)) Length _ k passed in
      let (signed, k2) = ok_at _ (Signature (f.len + 21)) _ k k1 in
      let (first, k3) = ok_at (eqb (u32_at m (f.len + 1)) ids.first) (Identity (f.len + 1)) _ k k2 in
      let (second, k4) = ok_at (eqb (u32_at m (f.len + 5)) ids.second) (Identity (f.len + 5)) _ k k3 in
      let (third, k5) = ok_at (eqb (u32_at m (f.len + 9)) ids.third) (Identity (f.len + 9)) _ k k4 in
      let (consumer, k6) = ok_at (eqb (u32_at m (f.len + 13)) p.consumer_id) (Consumer (f.len + 13)) _ k k5 in
      let is = eqb-true (length m) (f.len + 25) long in
      record {
        sound = rw ((ends is).0, (ends is).1) signed;
        long = is;
        identities = rw (
          eqb-true (u32_at m (f.len + 1)) ids.first first,
          eqb-true (u32_at m (f.len + 5)) ids.second second,
          eqb-true (u32_at m (f.len + 9)) ids.third third,
        );
        consumer = eqb-true (u32_at m (f.len + 13)) p.consumer_id consumer;
        number = ap (λ (x : Checked). x.monitoring_number) (ok_is k6) ∙ same;
        value = value;
      }

  fits_numbered : (r : R) (flags : ResponseFlags) (k : Result Checked MessageFault) → checked f p m ≡ k
      → with_number f last q m k ≡ Ok (Accepted r flags) → Fits f p q m r
  fits_numbered r flags (Err fault) passed e = absurd cc
  fits_numbered r flags (Ok k) passed e =
      let (same, v) = ok_at (eqb k.monitoring_number (number_of q)) (Number (f.len + 17)) _ _
      (not_ignored (accepted_before last k.monitoring_number) _ r flags e) in
      fits_checked k passed (eqb-true k.monitoring_number (number_of q) same) r (record_of k.flags flags (record_read f m) r v)

  pub accepted_fits : (r : R) (flags : ResponseFlags) → judged f p last q m ≡ Ok (Accepted r flags) → Fits f p q m r
  unfolding judged
  accepted_fits r flags e = fits_numbered r flags (checked f p m) refl (not_ignored (all_zero m) _ r flags e)

  -- a response that passes the checks is accepted, unless it bears the last accepted number
  pub passed_accepted : (r : R) (flags : ResponseFlags) → all_zero m ≡ false → accepted_before last (number_of q) ≡ false
      → checked f p m ≡ Ok (record { monitoring_number = number_of q; flags = flags }) → record_read f m ≡ Ok r
      → judged f p last q m ≡ Ok (Accepted r flags)
  unfolding judged
  passed_accepted r flags some new passed value = rw (some, passed, new, eq-eqb (number_of q) (number_of q) refl, value)
