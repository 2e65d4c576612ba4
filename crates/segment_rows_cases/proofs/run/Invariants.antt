-- The place stays within the input.
use Rattle.std.proofs.Common.{◌≤◌, length}
use Rattle.segment_rows_cases.proofs.run.Given as goal

abbrev pub invariant-loop : goal.invariant-loop
invariant-loop g l = l.at ≤ length l.s
