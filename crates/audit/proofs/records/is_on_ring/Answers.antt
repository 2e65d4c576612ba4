-- is_on_ring meets its contract: the loop follows the walk, with the turns left to go.
use borrow.Author.Rules.{rules}
use Rattle.audit.proofs.Testing.{ring_here, ring_back, ring_on, ring_over}
use Rattle.audit.proofs.records.is_on_ring.Goals as goal

pub returns-then-p-k : goal.returns-then-p-k
returns-then-p-k c = search (rules, ring_here)

pub returns-then-p-a : goal.returns-then-p-a
returns-then-p-a c = search (rules, ring_back)

pub loop-turn-preserved : goal.loop-turn-preserved
loop-turn-preserved c = search (rules, ring_on)

pub returns : goal.returns
returns c = search (rules, ring_over)
