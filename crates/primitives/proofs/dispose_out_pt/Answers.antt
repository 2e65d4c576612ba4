-- `primitives::dispose_out_pt` meets its contract.
use Rattle.primitives.specs.Beside.{dispose_out_pt}
use Rattle.primitives.proofs.dispose_out_pt.Goals as goal

pub returns : goal.returns
unfolding dispose_out_pt
returns c = cc
