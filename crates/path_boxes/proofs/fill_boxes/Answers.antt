-- `path_boxes::fill_boxes` meets its contract.
use borrow.Author.Rules.{rules}
use Rattle.path_boxes.proofs.Tables.{filling_on}
use Rattle.path_boxes.proofs.fill_boxes.Goals as goal

pub loop-i-preserved : goal.loop-i-preserved
loop-i-preserved c = search (rules, filling_on)
