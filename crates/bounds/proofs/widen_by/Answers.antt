-- widen_by meets its contract.
use Rattle.bounds.proofs.Widening.{sides_by}
use Rattle.bounds.proofs.widen_by.Goals as goal

pub returns : goal.returns
returns c = search sides_by
