-- misboxed meets its contract.
use Rattle.bounds.proofs.Walking.{bare_not, misboxed_is}
use Rattle.bounds.proofs.misboxed.Goals as goal

pub returns-then-a-eq-NONE : goal.returns-then-a-eq-NONE
returns-then-a-eq-NONE c = search bare_not

pub returns : goal.returns
returns c = search misboxed_is
