-- `pooling::lay_boxes` meets its contract: the loop follows the definition.
use Rattle.pooling.proofs.Sides.{boxes_none, boxes_next}
use Rattle.pooling.proofs.lay_boxes.Goals as goal

pub loop-i-init : goal.loop-i-init
loop-i-init c = boxes_none _ _ _

pub loop-i-preserved : goal.loop-i-preserved
loop-i-preserved c = search boxes_next
