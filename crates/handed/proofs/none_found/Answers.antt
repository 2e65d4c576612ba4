-- none_found meets its contract.
use borrow.Author.Rules.{rules}
use Rattle.handed.proofs.Trying.{looked}
use Rattle.handed.proofs.none_found.Goals as goal

pub returns : goal.returns
returns c = search (rules, looked)
