-- What a lane is called.
use Rattle.std.specs.Prelude.{ℕ, List, codes}
use Rattle.carrier.specs.declared.lane.Lane.{Lane}
use Rattle.carrier.specs.declared.lane.Lane.TheVariants.{Up, Down}

abbrev pub lane_text : Lane → List ℕ
lane_text Up = codes "up"
lane_text Down = codes "down"
