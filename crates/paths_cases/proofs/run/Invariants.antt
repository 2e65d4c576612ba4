-- `run` keeps every length.
use Rattle.std.proofs.Common.{◌≤◌, ◌≡◌, length}
use Rattle.paths_cases.proofs.run.Given as goal

abbrev pub invariant-loop : goal.invariant-loop
invariant-loop g l = (l.at ≤ length l.s) × (length l.tray ≡ length l.initial.tray) × (length l.out ≡ length l.initial.out)
