-- `containing::get_bounds_path` meets its contract.
use borrow.Author.Rules.{rules}
use Rattle.containing.proofs.Boxes.{widening_on}
use Rattle.containing.proofs.get_bounds_path.Goals as goal

pub loop-i-preserved : goal.loop-i-preserved
loop-i-preserved c = search (rules, widening_on)
