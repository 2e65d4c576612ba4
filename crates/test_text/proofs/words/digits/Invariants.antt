-- `test_text::words::digits` meets its contract.
use Prim.Native.Nat.{◌-◌}
use Rattle.test_text.specs.Words.{DIGITS, digits_at}
use Rattle.test_text.proofs.Reading.{Adding}
use Rattle.test_text.proofs.words.digits.Given as goal

abbrev pub invariant-loop : goal.invariant-loop
invariant-loop l = Adding l.s l.i l.v (DIGITS - l.counter) (digits_at DIGITS 0 l.s l.at)
