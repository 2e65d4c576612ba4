-- `pooling::lay_all` meets its contract: columns, boxes, counts.
use Rattle.pooling.proofs.Columns.{all_laid}
use Rattle.pooling.proofs.lay_all.Goals as goal

pub returns : goal.returns
returns c = search all_laid
