-- `read` meets its contract.
use borrow.Author.Rules.{rules}
use Rattle.store.proofs.Storing.{past_end}
use Rattle.store.proofs.read.Goals as goal

pub returns : goal.returns
returns c = search (rules, past_end)
