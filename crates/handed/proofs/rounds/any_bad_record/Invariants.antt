-- any_bad_record meets its contract: the first record that has something that fails ends the loop.
use Rattle.handed.specs.Rounds.{RecordsPassed}
use Rattle.handed.proofs.rounds.any_bad_record.Given as goal

abbrev pub invariant-loop-i : goal.invariant-loop-i
invariant-loop-i l = RecordsPassed l.w l.initial.marks l.i l.marks
