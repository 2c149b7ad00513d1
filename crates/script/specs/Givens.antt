-- A record as a line gives it, and the kinds that take it.
use Rattle.std.specs.Prelude.{Some, None, Option}
use Rattle.record.specs.declared.meter.Meter.{Meter}
use Rattle.record.specs.declared.draw.Draw.{Draw}
use Rattle.script.specs.declared.line.Given.{Given}
use Rattle.script.specs.declared.line.Given.TheVariants as given

-- the meter record that was given, if it is one
abbrev pub meter_given : Given → Option Meter
meter_given (given.Meter m) = Some m
meter_given (given.Draw d) = None

-- the draw record that was given, if it is one
abbrev pub draw_given : Given → Option Draw
draw_given (given.Meter m) = None
draw_given (given.Draw d) = Some d
