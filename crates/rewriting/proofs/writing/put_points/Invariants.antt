-- `rewriting::writing::put_points` meets its contract: the rings of the records below i are written.
use Rattle.rewriting.proofs.Laying.{RingsLaid}
use Rattle.rewriting.proofs.writing.put_points.Given as goal

abbrev pub invariant-loop-i : goal.invariant-loop-i
invariant-loop-i l = RingsLaid l.w l.numbers l.at l.initial.out l.k l.i l.out
