-- `pooling::lay_boxes` meets its contract: the loop follows the definition.
use mathlib.Core.Path.{◌≡◌}
use Rattle.pooling.specs.Words.{lay_sides}
use Rattle.pooling.proofs.lay_boxes.Given as goal

abbrev pub invariant-loop-i : goal.invariant-loop-i
invariant-loop-i l = (l.first ≡ lay_sides l.m l.i l.second l.initial.first)
