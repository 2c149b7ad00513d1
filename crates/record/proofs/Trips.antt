-- What the laws of a kind give of its calls, one after the other.
use Rattle.std.proofs.Common.{◌≡◌, ℕ, true, false, eqb, ltb, List, length, Ok, eqb-true, Fits, slice_index}
use Rattle.std.specs.Int.{w8}
use Rattle.record.specs.declared.fault.EncodeRefusal.TheVariants.{Short, Unsound}
use Rattle.record.specs.Calls.{encode_answer, decoded}
use Rattle.record.specs.Kind.{Format, Lawful, Encodes}
use Rattle.record.specs.OctetsLemmas.{octets_of}
use Rattle.record.specs.Results.{ok_past, ok_at}

module _ {R : Type 0} (f : Format R) (laws : Lawful f) (r : R) where
  -- where a record was encoded there was room, and it is sound
  pub had_room : (out : List ℕ) (u : Unit) → encode_answer f r out ≡ Ok u → (ltb (length out) f.len ≡ false) × (f.sound r ≡ true)
  had_room out u h =
      let p = ok_past (ltb (length out) f.len) Short _ u h in
      (p.0, (ok_at (f.sound r) Unsound (Ok tt) u p.1).0)

  -- octets that decode are those of the record
  pub rewrites : (s : List ℕ) → ((i : ℕ) → Fits w8 (slice_index s i)) → decoded f s ≡ Ok r → Encodes f r s
  rewrites s o h =
      let p = ok_at (eqb (length s) f.len) _ (f.parsed s) r h in
      laws.written_back s r (eqb-true (length s) f.len p.0) (octets_of s o) p.1
