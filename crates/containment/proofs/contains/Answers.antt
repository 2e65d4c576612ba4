-- `containment::contains` meets its contract.
use borrow.Author.Rules.{rules}
use Rattle.containment.proofs.Rows.{contains_is, contains_not}
use Rattle.containment.proofs.contains.Goals as goal

pub returns-then-begins_outside : goal.returns-then-begins_outside
returns-then-begins_outside c = search (rules, contains_not)

pub returns : goal.returns
returns c = search (rules, contains_is)
