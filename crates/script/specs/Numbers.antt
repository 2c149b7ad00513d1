-- Numbers of 64 bits in narrower fields.
use Rattle.std.specs.Prelude.{ℕ, ◌-◌, ◌^◌, min, cond, Some, None, Option, nat_lt}
use Rattle.message.specs.declared.making.Settings.{Settings}
use Rattle.script.specs.declared.narrow.WideSettings.{WideSettings}

-- a number in so many bits, and the widest value for one that is too wide
abbrev pub saturated : ℕ → ℕ → ℕ
saturated bits n = min n (2 ^ bits - 1)

-- a number, where it has 32 bits
abbrev pub word : ℕ → Option ℕ
word n = cond (nat_lt n (2 ^ 32)) (Some n) None

-- the settings of a line: its level, timeout and interval are saturated
abbrev pub settings_of : WideSettings → Settings
settings_of wide = record {
  consumer_id = wide.consumer_id;
  provider_id = wide.provider_id;
  base_id = wide.base_id;
  level = saturated 8 wide.level;
  timeout = saturated 32 wide.timeout;
  error_interval = saturated 16 wide.interval;
  operator_ack_necessary = wide.operator_ack_necessary;
}
