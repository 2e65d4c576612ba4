-- `rewriting::writing::put_joins` meets its contract: the joins below i are written.
use Rattle.rewriting.specs.Fields.{pair_field}
use Rattle.rewriting.proofs.Laying.{FieldsLaid}
use Rattle.rewriting.proofs.writing.put_joins.Given as goal

abbrev pub invariant-loop-i : goal.invariant-loop-i
invariant-loop-i l = FieldsLaid (pair_field l.numbers l.list) l.at l.initial.out l.n l.k l.i l.out
