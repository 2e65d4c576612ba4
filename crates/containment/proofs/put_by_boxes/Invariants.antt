-- `containment::put_by_boxes` meets its contract.
use Rattle.containment.specs.Needs.{AllPairs}
use Rattle.containment.proofs.put_by_boxes.Given as goal

abbrev pub invariant-loop-i : goal.invariant-loop-i
invariant-loop-i l = AllPairs l.t l.c l.initial.out l.out l.k l.f l.i
