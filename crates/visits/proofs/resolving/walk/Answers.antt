-- `visits::resolving::walk` meets its contract: the walk follows `find_in`, with the turns left to go.
use borrow.Author.Rules.{rules}
use Rattle.visits.proofs.Chains.{here, nowhere, hop, spent}
use Rattle.visits.proofs.resolving.walk.Goals as goal

pub returns-then-f-ne-NONE : goal.returns-then-f-ne-NONE
returns-then-f-ne-NONE c = search (rules, here)

pub returns-then-q-eq-NONE : goal.returns-then-q-eq-NONE
returns-then-q-eq-NONE c = search (rules, nowhere)

pub loop-turn-preserved : goal.loop-turn-preserved
loop-turn-preserved c = search (rules, hop)

pub returns : goal.returns
returns c = search (rules, spent)
