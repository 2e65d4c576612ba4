-- `opening::open::open_unboxed` meets its contract: the length, zeros in front, the stages.
use borrow.Author.Rules.{rules}
use Rattle.opening.proofs.Staging.{too_short, opened}
use Rattle.opening.proofs.open.open_unboxed.Goals as goal

pub returns-then-work-lt-LENGTH : goal.returns-then-work-lt-LENGTH
returns-then-work-lt-LENGTH c = search too_short

pub returns : goal.returns
returns c = search (opened, rules)
