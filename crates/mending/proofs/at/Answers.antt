-- `mending::at` meets its contract: past the end there is none.
use borrow.Author.Rules.{rules}
use Rattle.mending.specs.Needs.{table_at}
use Rattle.mending.proofs.at.Goals as goal

pub returns : goal.returns
unfolding table_at
returns c = search rules
