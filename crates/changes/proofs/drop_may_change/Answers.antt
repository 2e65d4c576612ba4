-- drop_may_change meets its contract.
use Rattle.changes.proofs.Changing.{at_side, off_side}
use Rattle.changes.proofs.drop_may_change.Goals as goal

pub returns-then-on_side : goal.returns-then-on_side
returns-then-on_side c = search at_side

pub returns-else-on_side : goal.returns-else-on_side
returns-else-on_side c = search off_side
