-- What the codes of a script stand for, and which codes a script takes.
use Rattle.std.specs.Prelude.{◌≡◌, ℕ, Bool, true, cond, ◌&&◌, List, [], ◌∷◌, map, length, drop, Ok, Err, Result, ◌==◌, nat_le, nat_lt}
use Rattle.disturber.specs.declared.disturbance.Disturbance.{Disturbance}
use Rattle.disturber.specs.declared.disturbance.Disturbance.TheVariants.{Pass, Lose, Repeat, Flip}
use Rattle.disturber.specs.declared.filling.ScriptRefusal.{ScriptRefusal}
use Rattle.disturber.specs.declared.filling.ScriptRefusal.TheVariants.{Length, Code}
use Rattle.disturber.specs.declared.script.Script.{Script}

-- 0 passes, 1 loses, 2 repeats, 3 flips; no script takes another number
abbrev pub disturbance_of : ℕ → Disturbance
disturbance_of code = cond (code == 1) Lose (cond (code == 2) Repeat (cond (code == 3) Flip Pass))

abbrev pub read_code : ℕ → Result Disturbance ScriptRefusal
read_code code = cond (nat_le code 3) (Ok (disturbance_of code)) (Err Code)

-- the disturbances of the down fetches to come
abbrev pub to_come : Script → List Disturbance
to_come s = drop s.next s.codes.items

-- the disturbance of the next down fetch; after the last code it passes
abbrev pub next_of : List Disturbance → Disturbance
next_of [] = Pass
next_of (d ∷ ds) = d

-- no number is over 3
abbrev pub are_codes : List ℕ → Bool
are_codes [] = true
are_codes (code ∷ codes) = nat_le code 3 && are_codes codes

-- at most 64 codes are taken, none over 3
abbrev pub fill_answer : List ℕ → Result Unit ScriptRefusal
fill_answer codes = cond (nat_lt 64 (length codes)) (Err Length) (cond (are_codes codes) (Ok tt) (Err Code))

-- a script takes codes in the place of those before, or refuses them
pub record Filled (codes : List ℕ) (before after : Script) (answer : Result Unit ScriptRefusal) : Type 0 where
  pub answers : answer ≡ fill_answer codes
  -- codes that are taken are to come from the first on, and the kept message stays
  pub taken : answer ≡ Ok tt → (to_come after ≡ map disturbance_of codes) × (after.kept ≡ before.kept)
  -- codes that are refused change nothing
  pub refused : (e : ScriptRefusal) → answer ≡ Err e → after ≡ before

abbrev pub script_number : ScriptRefusal → ℕ
script_number Length = 6
script_number Code = 6
