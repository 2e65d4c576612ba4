-- `visits::resolving::note` meets its contract: every record on the way to the home has it too.
use Rattle.std.proofs.Common.{arith, rules}
use Rattle.visits.proofs.Reaching.{on_along, spent_along}
use Rattle.visits.proofs.resolving.note.Goals as goal

pub loop-turn-preserved : goal.loop-turn-preserved
loop-turn-preserved c = (on_along c.loop-turn.invariant.0 c.args.h (search rules) _ (search rules) (search rules) _ c.read-f.ensures.0 (search rules) _ c.read-q.ensures.0 _ (omega arith) (omega arith) (search rules), search rules)

pub returns : goal.returns
returns c = search (rules, spent_along)
