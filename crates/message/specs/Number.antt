-- Monitoring numbers.
use Rattle.std.specs.Prelude.{ℕ, ◌+◌, cond, ◌==◌}

-- each request has the number after that of the request before; after 4,294,967,295 comes 256
abbrev pub next_number : ℕ → ℕ
next_number n = cond (n == 4294967295) 256 (n + 1)
