-- `owners::follow` meets its contract: after `h` owners the walk is at `q`.
use borrow.Author.Rules.{rules}
use Rattle.owners.proofs.Following.{ended, passed, unended}
use Rattle.owners.proofs.follow.Goals as goal

pub returns-then-q-eq-NONE : goal.returns-then-q-eq-NONE
returns-then-q-eq-NONE c = search (rules, ended)

pub loop-h-preserved : goal.loop-h-preserved
loop-h-preserved c = search (rules, passed)

pub returns : goal.returns
returns c = search (rules, unended)
