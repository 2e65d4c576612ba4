-- widen meets its contract.
use Rattle.bounds.proofs.Widening.{widen_is, widen_small}
use Rattle.bounds.proofs.widen.Goals as goal

pub returns : goal.returns
returns c = (search widen_is, search widen_small)
