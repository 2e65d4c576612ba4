-- `removal_walk` meets its contract: each turn is a step that moves on.
use Rattle.rings.specs.Progress.{removal}
use Rattle.steps.proofs.Gliding.{GlidingAt}
use Rattle.steps.proofs.glide.removal_walk.Given as goal

abbrev pub invariant-loop : goal.invariant-loop
invariant-loop l = GlidingAt removal l.w l.i l.p l.x
