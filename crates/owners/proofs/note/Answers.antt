-- `owners::note` meets its contract: the chain from `q` has `n - k` owners to go.
use borrow.Author.Rules.{rules}
use Rattle.owners.proofs.Following.{noted, noting_on}
use Rattle.owners.proofs.note.Goals as goal

pub loop-k-preserved : goal.loop-k-preserved
loop-k-preserved c = (search (rules, noting_on), search (rules, noted), search rules)
