-- `place` answers a word: whatever is read is one.
use Rattle.std.proofs.Common.{◌<◌, ◌^◌}
use Rattle.stepped_cases.proofs.progress.place.Given as goal

abbrev pub invariant-loop : goal.invariant-loop
invariant-loop l = l.p < 2 ^ 32
