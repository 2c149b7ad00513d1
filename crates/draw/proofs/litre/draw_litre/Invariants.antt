use Rattle.std.proofs.Common.{◌≡◌, length}
use Rattle.draw.proofs.litre.draw_litre.Given as goal

abbrev pub invariant-loop-step : goal.invariant-loop-step
invariant-loop-step g l = length l.buffer ≡ 1525
