-- `visits::elsewhere` meets its contract: the record that the point names is the ring's own; or what it resolves to, compared.
use borrow.Author.Rules.{rules}
use Rattle.visits.proofs.Rounds.{own_here}
use Rattle.visits.proofs.elsewhere.Goals as goal

pub returns-then-is_own : goal.returns-then-is_own
returns-then-is_own c = search (rules, own_here)
