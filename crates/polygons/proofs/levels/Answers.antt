-- `polygons::levels` meets its contract.
use borrow.Author.Rules.{rules}
use Rattle.polygons.proofs.Going.{leveling_on}
use Rattle.polygons.proofs.levels.Goals as goal

pub loop-i-preserved : goal.loop-i-preserved
loop-i-preserved c = search (rules, leveling_on)
