-- tested meets its contract: the counts; then at once where nothing is found; else the tests of the live block, then boxes and names.
use Rattle.std.proofs.lemmas.Result.{err_from_is_err_and}
use Rattle.handed.proofs.Handing.{says_many, says_good, says_last, says_refused}
use Rattle.handed.proofs.tested.Goals as goal

pub returns-then-crowded : goal.returns-then-crowded
returns-then-crowded c = search says_many

pub returns-then-is_good : goal.returns-then-is_good
returns-then-is_good c = search says_good

pub returns : goal.returns
returns c = search (says_last, c.in_ok-in_order.was)

pub returns-in_err-in_order : goal.returns-in_err-in_order
returns-in_err-in_order c = let p = err_from_is_err_and c.from_residual.result c.from_residual.ensures.1 in rw (p.1, p.2) (search (says_refused, c.in_err-in_order.was))
