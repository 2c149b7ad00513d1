-- A record of one octet, of a kind that no line of a script gives.
use Rattle.std.specs.Prelude.{◌≡◌, ℕ, zero, suc, ◌<◌, ◌≤◌, Bool, true, false, cond, List, [], ◌∷◌, ◌++◌, length, Ok, None, Option, Result, ◌==◌, nat_lt, slice_index, codes, refl}
use Rattle.std.proofs.Common.{sym, ap, ◌∙◌, arith, ltb-false, lit<, lit≤}
use Rattle.record.specs.Calls.{fault}
use Rattle.record.specs.Kind.{Format, Lawful, Encodes}
use Rattle.record.specs.Octets.{Octets, bit}
use Rattle.record.specs.Results.{ok_past, ok_is}
use Rattle.record.specs.declared.fault.RecordCause.TheVariants.{Boolean}
use Rattle.record.specs.declared.fault.RecordFault.{RecordFault}
use Rattle.script.specs.declared.line.Given.{Given}
use Rattle.script_tests.specs.declared.alarm.Alarm.{Alarm}

abbrev pub alarm_octets : Alarm → List ℕ
alarm_octets a = bit a.on ∷ []

-- only an octet above 1 fails to decode
abbrev pub alarm_parsed : List ℕ → Result Alarm RecordFault
alarm_parsed s = cond (nat_lt 1 (slice_index s 0)) (fault Boolean 0) (Ok (record { on = (slice_index s 0 == 1) }))

abbrev pub alarm_format : Format Alarm
alarm_format = record {
  len = 1;
  structure = 0x414C524D;
  sound = λ a. true;
  octets = alarm_octets;
  parsed = alarm_parsed;
  substitute = record { on = false };
}

bit_small : (b : Bool) → bit b < 256
bit_small true = lit< tt
bit_small false = lit< tt

bit_back : (b : Bool) → alarm_parsed (bit b ∷ []) ≡ Ok (record { on = b })
bit_back true = refl
bit_back false = refl

bit_is : (g : ℕ) → g ≤ 1 → bit (g == 1) ≡ g
bit_is zero h = refl
bit_is (suc zero) h = refl
bit_is (suc (suc n)) h = absurd (omega arith)

written : (s : List ℕ) (a : Alarm) → length s ≡ 1 → Octets s → alarm_parsed s ≡ Ok a → Encodes alarm_format a s
written [] a long o h = absurd (omega arith)
written (x ∷ y ∷ xs) a long o h = absurd (omega arith)
written (x ∷ []) a long o h =
    let p = ok_past (nat_lt 1 x) _ _ a h in
    record { sound = refl; octets = ap alarm_octets (sym (ok_is p.1)) ∙ ap (λ n. n ∷ []) (bit_is x (ltb-false 1 x p.0)) }

pub alarm_lawful : Lawful alarm_format
alarm_lawful = record {
  some = lit≤ tt;
  few = lit≤ tt;
  signed = lit< tt;
  whole = λ r h. refl;
  small = λ r h. (bit_small r.on, tt);
  read_back = λ r h. bit_back r.on;
  written_back = written;
  zeros = refl;
}

-- no line gives one
abbrev pub alarm_given : Given → Option Alarm
alarm_given given = None

abbrev pub alarm_text : Alarm → List ℕ
alarm_text a = codes "alarm " ++ cond a.on (codes "on") (codes "off")
