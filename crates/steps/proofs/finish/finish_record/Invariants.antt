-- `finish_record` meets its contract: each turn is steps that only move on, and then one more; they lower the measure.
use Rattle.store.specs.Words.{view}
use Rattle.acts.specs.Finishable.{words_left}
use Rattle.turns.specs.Form.{raised, geometry_of}
use Rattle.steps.proofs.Looping.{Running}
use Rattle.steps.proofs.finish.finish_record.Given as goal

abbrev pub invariant-loop-e : goal.invariant-loop-e
invariant-loop-e l = Running l.initial.w l.i l.w

abbrev pub decreases-loop-e : goal.decreases-loop-e
decreases-loop-e l = words_left (geometry_of (view l.initial.w)) raised l.w l.i
