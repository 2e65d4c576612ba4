-- `numbering::number_rings` meets its contract: the rings of the records below i are numbered.
use Rattle.numbering.proofs.Rounds.{NumberingAll}
use Rattle.numbering.proofs.number_rings.Given as goal

abbrev pub invariant-loop-i : goal.invariant-loop-i
invariant-loop-i l = NumberingAll l.w l.initial.numbers l.k l.i l.numbers
