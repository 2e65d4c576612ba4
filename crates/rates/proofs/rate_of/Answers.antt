-- `rate_of` meets its contract.
use Rattle.std.proofs.Common.{rules}
use Rattle.rates.proofs.Digits.{more_given}
use Rattle.rates.proofs.rate_of.Goals as goal

pub returns-in_default : goal.returns-in_default
returns-in_default c = search (rules, more_given)
