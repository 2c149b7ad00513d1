-- What is built and judged at once comes back.
use Rattle.std.proofs.Common.{◌≡◌, ℕ, ◌+◌, ◌-◌, ◌^◌, ◌<◌, Bool, true, false, cond, eqb, ltb, List, length, take, Ok, Err, sym, ap, ◌∙◌, arith}
use Rattle.message.specs.declared.check.Checked.{Checked}
use Rattle.message.specs.declared.fault.MessageFault.{MessageFault}
use Rattle.message.specs.declared.fault.MessageFault.TheVariants.{Consumer}
use Rattle.message.specs.declared.loopback.LoopbackFault.TheVariants.{Judge}
use Rattle.message.specs.declared.parameters.Parameters.{Parameters}
use Rattle.message.specs.declared.response.Response.{Response}
use Rattle.message.specs.Check.{checked, record_read}
use Rattle.message.specs.Loopback.{returned, loopback_answer}
use Rattle.message.specs.Response.{longest, response_octets, build_answer, built}
use Rattle.record.specs.Kind.{Format, Lawful}
use Rattle.record.specs.Results.{ok_at, ok_is, err_past}
use Rattle.message.proofs.Builds.{built_large, built_sound, built_message}
use Rattle.message.proofs.ReadBack.{checked_is, record_is}

module _ {R : Type 0} (f : Format R) (laws : Lawful f) (p : Parameters) (r : Response R)
    (few_consumer : r.consumer_id < 2 ^ 32) (few_number : r.monitoring_number < 2 ^ 32)
    (d b : List ℕ) (end : ℕ) (ok : build_answer f r d ≡ Ok end) (is : b ≡ built f p r d) where
  large : ltb (length d) longest ≡ false
  large = built_large f laws p r d b end ok is

  sound : f.sound r.safety_data ≡ true
  sound = built_sound f laws p r d b end ok is

  message : take (end - 0) b ≡ response_octets f p r
  message = built_message f laws p r d b end ok is

  abbrev for_us : Bool
  for_us = eqb r.consumer_id p.consumer_id

  passes : checked f p (take (end - 0) b)
      ≡ cond for_us (Ok (record { monitoring_number = r.monitoring_number; flags = r.flags })) (Err (Consumer (f.len + 13)))
  passes = checked_is f laws p r sound few_consumer few_number (take (end - 0) b) message

  pub loop_ok : (k : Checked) (v : R) → checked f p (take (end - 0) b) ≡ Ok k → record_read f (take (end - 0) b) ≡ Ok v
      → Ok (record { safety_data = v; checked = k }) ≡ loopback_answer f p r d
  loop_ok k v hk hv =
      let same_record : r.safety_data ≡ v = ok_is (sym (record_is f laws p r sound few_consumer few_number (take (end - 0) b) message) ∙ hv) in
      let same = ok_at for_us _ _ k (sym passes ∙ hk) in
      let answer : loopback_answer f p r d ≡ Ok (returned r) = simp (large, sound, same.0) in
      let all : Ok (returned r) ≡ Ok (record { safety_data = v; checked = k }) = cc (same_record, ok_is same.1) in
      sym (answer ∙ all)

  pub loop_judged : (x : MessageFault) → checked f p (take (end - 0) b) ≡ Err x → Err (Judge x) ≡ loopback_answer f p r d
  loop_judged x hx =
      let other = err_past for_us _ (Consumer (f.len + 13)) x (sym passes ∙ hx) in
      simp (large, sound, other.0) (ap (λ y. Err (Judge y)) (sym other.1))

  pub loop_read : (x : MessageFault) → record_read f (take (end - 0) b) ≡ Err x → ⊥
  loop_read x hx =
      let same = sym (record_is f laws p r sound few_consumer few_number (take (end - 0) b) message) ∙ hx in
      let z : ◌≡◌ {A = ℕ} 0 1 = cc in omega arith
