-- `run` leaves the work space as long as it was.
use Rattle.std.proofs.Common.{◌≡◌, length}
use Rattle.opened_cases.proofs.run.Given as goal

abbrev pub invariant-loop : goal.invariant-loop
invariant-loop g l = length l.w ≡ length l.initial.w
