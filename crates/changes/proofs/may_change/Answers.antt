-- may_change meets its contract.
use Rattle.changes.proofs.Changing.{drop_changes, cut_changes}
use Rattle.changes.proofs.may_change.Goals as goal

pub returns-in-Drop : goal.returns-in-Drop
returns-in-Drop c = search drop_changes

pub returns-in-Cut : goal.returns-in-Cut
returns-in-Cut c = search cut_changes
