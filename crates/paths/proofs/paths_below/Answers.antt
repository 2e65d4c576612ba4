-- `paths::paths_below` meets its contract: the paths of the records below j are counted.
use borrow.Author.Rules.{rules}
use Rattle.paths.proofs.Counts.{paths_by}
use Rattle.paths.proofs.paths_below.Goals as goal

pub loop-j-preserved : goal.loop-j-preserved
loop-j-preserved c = (search rules, search paths_by)
