-- `opening::open::settle` meets its contract: zeros on a refusal.
use borrow.Author.Rules.{rules}
use Rattle.opening.proofs.Staging.{settle_accepted, settle_refused}
use Rattle.opening.proofs.open.settle.Goals as goal

pub returns-else-is_err : goal.returns-else-is_err
returns-else-is_err c = search (rules, settle_accepted)

pub returns-then-is_err : goal.returns-then-is_err
returns-then-is_err c = search (rules, settle_refused)
