-- Where the fields of a request and a response stand. Numbers go lowest octet first.
use Rattle.std.specs.Prelude.{ℕ, ◌+◌, cond, List, [], ◌∷◌, ◌++◌, length, take, drop, Some, None, Option, ◌==◌, slice_index}
use Rattle.message.specs.declared.request.Request.{Request}
use Rattle.message.specs.Flags.{request_octet, request_flags}
use Rattle.record.specs.Octets.{le, un}

-- n octets from a place on
abbrev pub part : List ℕ → ℕ → ℕ → List ℕ
part s at n = take n (drop at s)

-- the number of 32 bits at a place
unfoldable pub u32_at : List ℕ → ℕ → ℕ
u32_at s at = un (part s at 4)

-- a buffer with octets written over it from a place on
abbrev pub written : List ℕ → ℕ → List ℕ → List ℕ
written b at s = take at b ++ (s ++ drop (at + length s) b)

-- a request: consumer number, monitoring number, flags
abbrev pub request_octets : Request → List ℕ
request_octets q = le 4 q.consumer_id ++ le 4 q.monitoring_number ++ request_octet q.flags ∷ []

-- nine octets are read as a request
abbrev pub request_read : List ℕ → Option Request
request_read s =
    cond (length s == 9)
    (Some (record { consumer_id = u32_at s 0; monitoring_number = u32_at s 4; flags = request_flags (slice_index s 8) }))
    None
