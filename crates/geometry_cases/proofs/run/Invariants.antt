-- `run`: no more differ than there are.
use Rattle.std.proofs.Common.{◌≤◌}
use Rattle.geometry_cases.proofs.run.Given as goal

abbrev pub invariant-loop-cases : goal.invariant-loop-cases
invariant-loop-cases l = l.differ ≤ l.cases
