-- The publishing carrier has a slot a lane.
use Rattle.std.proofs.Common.{lit≤}
use Rattle.carrier.specs.declared.cell.Cell.{Cell}
use Rattle.carrier.specs.Cells.{published}
use Rattle.carrier.specs.Lanes.{HasSlots}

pub one_slot : (up down : Cell) → HasSlots (published up down)
one_slot up down = record { up = lit≤ tt; down = lit≤ tt }
