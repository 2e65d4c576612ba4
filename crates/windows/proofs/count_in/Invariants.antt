-- count_in meets its contract.
use Rattle.windows.specs.Needs.{CountedTo}
use Rattle.windows.proofs.count_in.Given as goal

abbrev pub invariant-loop-i : goal.invariant-loop-i
invariant-loop-i l = CountedTo l.w l.window l.i l.m
