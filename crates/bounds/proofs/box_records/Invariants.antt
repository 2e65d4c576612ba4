-- box_records meets its contract: after record i the boxes of the records so far are written.
use Rattle.bounds.proofs.Beside.{BoxedTo}
use Rattle.bounds.proofs.box_records.Given as goal

abbrev pub invariant-loop-i : goal.invariant-loop-i
invariant-loop-i l = BoxedTo l.initial.w l.i l.w
