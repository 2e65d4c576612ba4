-- `rewriting::writing::put_joins` meets its contract: the joins below i are written.
use Rattle.rewriting.proofs.Laying.{laid_begun, pair_on}
use Rattle.rewriting.proofs.writing.put_joins.Goals as goal

pub loop-i-init : goal.loop-i-init
loop-i-init c = laid_begun _ _ _ _

pub loop-i-preserved : goal.loop-i-preserved
loop-i-preserved c = pair_on _ _ c.loop-i.invariant _ _ _ _ c.loop-i-test.true c.new_number-first.ensures c.new_number-second.ensures c.put_join-k.ensures
