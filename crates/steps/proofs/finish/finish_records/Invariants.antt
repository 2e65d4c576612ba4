-- `finish_records` meets its contract: what is left to finish is said of the records from i on.
use Rattle.steps.proofs.Looping.{Remaining}
use Rattle.steps.proofs.finish.finish_records.Given as goal

abbrev pub invariant-loop-i : goal.invariant-loop-i
invariant-loop-i l = Remaining l.initial.w l.i l.w
