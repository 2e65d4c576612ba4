-- `rewriting::writing::put_segments` meets its contract: the segments below i are written.
use Rattle.rewriting.specs.Fields.{level_field}
use Rattle.rewriting.proofs.Laying.{FieldsLaid}
use Rattle.rewriting.proofs.writing.put_segments.Given as goal

abbrev pub invariant-loop-i : goal.invariant-loop-i
invariant-loop-i l = FieldsLaid (level_field l.numbers l.list) l.at l.initial.out l.m l.k l.i l.out
