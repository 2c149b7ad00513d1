-- Which messages are sound, and which are all zero.
use Rattle.std.specs.Prelude.{ℕ, ◌-◌, Bool, false, cond, List, length, take, ◌==◌, nat_lt}
use Rattle.std.specs.List.{list_all}
use Rattle.message.specs.Layout.{u32_at}
use Rattle.signature.specs.Signature.{signature}

-- the last four octets are the signature of those before
abbrev pub signed : List ℕ → Bool
signed m = u32_at m (length m - 4) == signature (take (length m - 4) m)

-- a message is sound if it has at least 26 octets and its last four are the signature of those before
abbrev pub sound : List ℕ → Bool
sound m = cond (nat_lt (length m) 26) false (signed m)

-- every octet is zero
abbrev pub all_zero : List ℕ → Bool
all_zero m = list_all (λ x. x == 0) m
