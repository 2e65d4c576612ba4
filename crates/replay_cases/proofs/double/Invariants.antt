-- `double` keeps every length.
use Rattle.std.proofs.Common.{◌≡◌, length}
use Rattle.replay_cases.proofs.double.Given as goal

abbrev pub invariant-loop : goal.invariant-loop
invariant-loop l = length l.job ≡ length l.initial.job
