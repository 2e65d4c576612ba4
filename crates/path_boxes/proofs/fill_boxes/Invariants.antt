-- `path_boxes::fill_boxes` meets its contract.
use lib.ListN.{length}
use Rattle.path_boxes.specs.Table.{filled, Filling}
use Rattle.path_boxes.proofs.fill_boxes.Given as goal

abbrev pub invariant-loop-i : goal.invariant-loop-i
invariant-loop-i l = Filling l.t l.c (length l.initial.boxes) (filled l.t l.c 0 0 l.initial.boxes) l.boxes l.f l.i
