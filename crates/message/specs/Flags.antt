-- The flags of requests and responses, as bits of one octet. The other bits are sent as 0 and not read.
use Rattle.std.specs.Prelude.{ℕ, ◌+◌, ◌*◌, ◌/◌, ◌%◌, Bool, ◌==◌}
use Rattle.message.specs.declared.flags.RequestFlags.{RequestFlags}
use Rattle.message.specs.declared.flags.ResponseFlags.{ResponseFlags}
use Rattle.record.specs.Octets.{bit}

-- three flags in the lowest bits of an octet, the first in the lowest
abbrev pub flag_octet : Bool → Bool → Bool → ℕ
flag_octet a b c = bit a + 2 * bit b + 4 * bit c

-- is the bit of this weight set?
abbrev pub flag_at : ℕ → ℕ → Bool
flag_at weight octet = octet / weight % 2 == 1

abbrev pub request_octet : RequestFlags → ℕ
request_octet f = flag_octet f.communication_error f.operator_ack_requested f.fsv_activated

abbrev pub request_flags : ℕ → RequestFlags
request_flags octet = record {
  communication_error = (octet % 2 == 1);
  operator_ack_requested = flag_at 2 octet;
  fsv_activated = flag_at 4 octet;
}

abbrev pub response_octet : ResponseFlags → ℕ
response_octet f = flag_octet f.operator_ack_provider f.activate_fsv f.test_mode_activated

abbrev pub response_flags : ℕ → ResponseFlags
response_flags octet = record {
  operator_ack_provider = (octet % 2 == 1);
  activate_fsv = flag_at 2 octet;
  test_mode_activated = flag_at 4 octet;
}
