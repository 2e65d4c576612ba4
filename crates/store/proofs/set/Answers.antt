-- set meets its contract.
use borrow.Author.Rules.{rules}
use Rattle.store.proofs.Storing.{stored}
use Rattle.store.proofs.set.Goals as goal

pub returns : goal.returns
returns c = search (stored, rules)
