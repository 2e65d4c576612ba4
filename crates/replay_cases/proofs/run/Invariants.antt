-- `run` keeps every length.
use Rattle.std.proofs.Common.{◌≡◌, length}
use Rattle.replay_cases.proofs.run.Given as goal

abbrev pub invariant-loop : goal.invariant-loop
invariant-loop g l = (length l.job ≡ length l.initial.job) × (length l.work ≡ length l.initial.work) × (length l.tray ≡ length l.initial.tray) × (length l.text ≡ length l.initial.text)
