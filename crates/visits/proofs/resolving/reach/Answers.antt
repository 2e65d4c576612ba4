-- `visits::resolving::reach` meets its contract: `q` resolves to what `r` does, and fits 32 bits.
use Rattle.std.proofs.Common.{arith, rules}
use Rattle.visits.proofs.Reaching.{own_home, no_home, toward_on, spent_home}
use Rattle.visits.proofs.resolving.reach.Goals as goal

pub returns-then-f-ne-NONE : goal.returns-then-f-ne-NONE
returns-then-f-ne-NONE c = search (rules, own_home)

pub returns-then-q-eq-NONE : goal.returns-then-q-eq-NONE
returns-then-q-eq-NONE c = search (rules, no_home)

pub loop-turn-preserved : goal.loop-turn-preserved
loop-turn-preserved c = (toward_on c.loop-turn.invariant.0 _ c.read-f.ensures.0 (search rules) _ c.read-q.ensures.0 _ (omega arith) (omega arith) (search rules), search rules)

pub returns : goal.returns
returns c = search (rules, spent_home)
