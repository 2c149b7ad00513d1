-- Every calling carrier counts at least one slot a lane.
use Rattle.std.proofs.Common.{arith}
use Rattle.calling.specs.declared.Calling.{Calling}
use Rattle.calling.specs.Meaning.{meaning}
use Rattle.carrier.specs.Lanes.{HasSlots}

pub some_slots : (c : Calling) → HasSlots (meaning c)
some_slots c = record { up = omega arith; down = omega arith }
