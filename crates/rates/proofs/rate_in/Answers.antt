-- `rate_in` meets its contract: the number so far, up to one past the largest rate.
use Rattle.rates.proofs.Digits.{no_digit, read_whole}
use Rattle.rates.proofs.rate_in.Goals as goal

pub returns-then-not-is_ascii_digit : goal.returns-then-not-is_ascii_digit
returns-then-not-is_ascii_digit c = search no_digit

pub returns : goal.returns
returns c = search read_whole
