-- `rewriting::settle` meets its contract: zeros on a refusal.
use borrow.Author.Rules.{rules}
use Rattle.rewriting.proofs.Ends.{settle_bytes, settle_refused}
use Rattle.rewriting.proofs.settle.Goals as goal

pub returns-else-is_err : goal.returns-else-is_err
returns-else-is_err c = search (rules, settle_bytes)

pub returns-then-is_err : goal.returns-then-is_err
returns-then-is_err c = search (rules, settle_refused)
