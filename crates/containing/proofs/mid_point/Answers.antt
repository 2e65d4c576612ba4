-- `containing::mid_point` meets its contract.
use lib.IntN.{pos}
use Rattle.containing.proofs.Boxes.{mid_is}
use Rattle.containing.proofs.mid_point.Goals as goal

pub returns : goal.returns
returns c = mid_is _ (pos 0) (pos 0) _ _ c.requires c.half-x.ensures c.half-y.ensures
