-- `fix_first` meets its contract.
use Rattle.applying.proofs.Applying.{first_is, first_not}
use Rattle.applying.proofs.fix_first.Goals as goal

pub returns-then-f-x : goal.returns-then-f-x
returns-then-f-x c = search (first_is, first_not)

pub returns-else-f-x : goal.returns-else-f-x
returns-else-f-x c = search (first_is, first_not)
