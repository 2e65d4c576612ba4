-- `digits` keeps every length.
use Rattle.std.proofs.Common.{◌≡◌, length}
use Rattle.replay_cases.proofs.digits.Given as goal

abbrev pub invariant-loop-v : goal.invariant-loop-v
invariant-loop-v l = length l.line ≡ length l.initial.line
