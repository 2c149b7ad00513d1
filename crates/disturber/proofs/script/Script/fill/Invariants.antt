use Rattle.std.proofs.Common.{◌≡◌, map, take, drop}
use Rattle.disturber.specs.Scripts.{are_codes, disturbance_of}
use Rattle.disturber.proofs.script.Script.fill.Given as goal

abbrev pub invariant-loop-code : goal.invariant-loop-code
invariant-loop-code l = record {
  taken : l.taken.items ≡ map disturbance_of (take l.code-index l.codes);
  left : are_codes (drop l.code-index l.codes) ≡ are_codes l.codes;
}
