-- A disturber has the slots of the carrier below.
use Rattle.carrier.specs.Lanes.{Lanes, HasSlots}
use Rattle.disturber.specs.declared.Disturber.{Disturber}
use Rattle.disturber.specs.Disturbing.{lanes_over}

pub slots_over : {C : Type 0} (lanes : C → Lanes) → ((c : C) → HasSlots (lanes c)) → (d : Disturber C) → HasSlots (lanes_over lanes d)
slots_over lanes slots d = record { up = (slots d.below).up; down = (slots d.below).down }
