-- The numbers of a carrier's refusals.
use Rattle.std.specs.Prelude.{ℕ}
use Rattle.carrier.specs.declared.lane.FetchRefusal.{FetchRefusal}
use Rattle.carrier.specs.declared.lane.FetchRefusal.TheVariants.{ShortBuffer}
use Rattle.carrier.specs.declared.lane.PlaceRefusal.{PlaceRefusal}
use Rattle.carrier.specs.declared.lane.PlaceRefusal.TheVariants.{Length, Full}

abbrev pub place_number : PlaceRefusal → ℕ
place_number Length = 9
place_number Full = 10

abbrev pub fetch_number : FetchRefusal → ℕ
fetch_number ShortBuffer = 7
