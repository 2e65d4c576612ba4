-- `rewriting::writing::put_records` meets its contract: the records below i are written.
use Rattle.rewriting.specs.Fields.{drawn_field}
use Rattle.rewriting.proofs.Laying.{FieldsLaid}
use Rattle.rewriting.proofs.writing.put_records.Given as goal

abbrev pub invariant-loop-i : goal.invariant-loop-i
invariant-loop-i l = FieldsLaid (drawn_field l.w l.numbers) l.at l.initial.out l.n l.k l.i l.out
