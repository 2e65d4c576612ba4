-- `test_text::words::end_of` meets its contract.
use Prim.Native.Nat.{◌-◌}
use Rattle.test_text.specs.Words.{WORD, end_of}
use Rattle.test_text.proofs.Reading.{Seeking}
use Rattle.test_text.proofs.words.end_of.Given as goal

abbrev pub invariant-loop : goal.invariant-loop
invariant-loop l = Seeking l.stop l.s l.i (WORD - l.counter) (end_of l.stop WORD l.s l.at)
