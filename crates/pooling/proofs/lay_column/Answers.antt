-- `pooling::lay_column` meets its contract: the loop follows the definition.
use Rattle.pooling.proofs.Columns.{lay_none, lay_next}
use Rattle.pooling.proofs.lay_column.Goals as goal

pub loop-i-init : goal.loop-i-init
loop-i-init c = lay_none _ _ _ _ _

pub loop-i-preserved : goal.loop-i-preserved
loop-i-preserved c = search lay_next
