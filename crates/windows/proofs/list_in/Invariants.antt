-- list_in meets its contract.
use Rattle.windows.specs.Needs.{ListedTo}
use Rattle.windows.proofs.list_in.Given as goal

abbrev pub invariant-loop-i : goal.invariant-loop-i
invariant-loop-i l = ListedTo l.w l.window l.initial.list l.i l.at l.list
