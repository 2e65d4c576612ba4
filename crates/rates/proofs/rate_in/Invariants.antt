-- `rate_in` meets its contract: the number so far, up to one past the largest rate.
use Rattle.rates.proofs.Digits.{DigitsTo}
use Rattle.rates.proofs.rate_in.Given as goal

abbrev pub invariant-loop-b : goal.invariant-loop-b
invariant-loop-b l = DigitsTo l.s l.b-index l.v
