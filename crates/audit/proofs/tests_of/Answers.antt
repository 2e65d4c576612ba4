-- tests_of meets its contract: the counts, then the rest in order.
use Rattle.audit.proofs.Testing.{says_crowded}
use Rattle.audit.proofs.tests_of.Goals as goal

pub returns-then-crowded : goal.returns-then-crowded
returns-then-crowded c = search says_crowded
