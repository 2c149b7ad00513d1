-- How a start number is made.
use Rattle.std.specs.Prelude.{◌≡◌, ℕ, ◌<◌, ◌≤◌, Ok, Err, Result}
use Rattle.consumer.specs.declared.making.StartRefusal.{StartRefusal}
use Rattle.consumer.specs.declared.making.StartRefusal.TheVariants.{Low}
use Rattle.consumer.specs.declared.start.StartNumber.{StartNumber}

abbrev pub start_number : StartRefusal → ℕ
start_number Low = 4

-- a number below 256 is refused; any other is the start number
abbrev pub Started : ℕ → Result StartNumber StartRefusal → Type 0
Started n (Ok s) = (256 ≤ n) × (s.value ≡ n)
Started n (Err e) = (n < 256) × (e ≡ Low)
