-- get meets its contract.
use borrow.Author.Rules.{rules}
use Rattle.store.proofs.Storing.{got}
use Rattle.store.proofs.get.Goals as goal

pub returns : goal.returns
returns c = search (got, rules)
