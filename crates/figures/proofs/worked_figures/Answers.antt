use Rattle.std.proofs.Common.{refl}
use lib.Ieee.{to_bits}
use Rattle.figures.proofs.worked_figures.Goals as goal

pub returns : goal.returns
unfolding to_bits
returns c = record {
  wraps = refl;
  identity = λ p h3 h4 h1. rw (h3, h4, h1);
  meter = refl;
  run = refl;
  tag = λ rest. refl;
  alive = λ p c q timeout before at. simp (timeout, before, at);
  expired = λ p c q timeout before at. simp (timeout, before, at);
  hold = λ p c x interval before none. simp (interval, before, none);
  no_hold = λ p c x interval before none. simp (interval, before, none);
}
