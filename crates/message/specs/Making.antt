-- How a parameter set is made, and what is refused.
use Rattle.std.specs.Prelude.{◌≡◌, ℕ, Bool, cond, not, ◌&&◌, ◌||◌, Some, None, Ok, Err, Option, Result, ◌==◌, nat_lt}
use Rattle.message.specs.declared.making.ParameterRefusal.{ParameterRefusal}
use Rattle.message.specs.declared.making.ParameterRefusal.TheVariants.{Level, Timeout, ErrorInterval}
use Rattle.message.specs.declared.making.Settings.{Settings}
use Rattle.message.specs.declared.parameters.Parameters.{Parameters}

abbrev pub parameter_number : ParameterRefusal → ℕ
parameter_number Level = 1
parameter_number Timeout = 2
parameter_number ErrorInterval = 3

-- a level from 1 to 4
abbrev pub level_bad : Settings → Bool
level_bad s = nat_lt s.level 1 || nat_lt 4 s.level

-- a timeout from 1 to 3,600,000 milliseconds
abbrev pub timeout_bad : Settings → Bool
timeout_bad s = nat_lt s.timeout 1 || nat_lt 3600000 s.timeout

-- an error interval of 6, 60 or 600 minutes
abbrev pub interval_bad : Settings → Bool
interval_bad s = not (s.error_interval == 6) && (not (s.error_interval == 60) && not (s.error_interval == 600))

-- the set holds the settings, each in its field
pub record Holds (s : Settings) (p : Parameters) : Type 0 where
  pub consumer : p.consumer_id ≡ s.consumer_id
  pub provider : p.provider_id ≡ s.provider_id
  pub base : p.base_id ≡ s.base_id
  pub level : p.level ≡ s.level
  pub timeout : p.timeout ≡ s.timeout
  pub interval : p.error_interval ≡ s.error_interval
  pub acknowledgment : p.operator_ack_necessary ≡ s.operator_ack_necessary

-- the first limit that the settings pass, if any
abbrev pub passed : Settings → Option ParameterRefusal
passed s = cond (level_bad s) (Some Level) (cond (timeout_bad s) (Some Timeout) (cond (interval_bad s) (Some ErrorInterval) None))

-- the making answers the set, or the first limit that is passed
abbrev pub Made : Settings → Result Parameters ParameterRefusal → Type 0
Made s (Ok p) = (passed s ≡ None) × Holds s p
Made s (Err e) = passed s ≡ Some e
