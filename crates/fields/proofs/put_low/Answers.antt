-- `fields::put_low` meets its contract: as many low bytes are written as were passed, and `rest` is what is above them.
use Rattle.fields.proofs.Pours.{low_begun, low_more, low_all}
use Rattle.fields.proofs.put_low.Goals as goal

pub loop-init : goal.loop-init
loop-init g c = low_begun _ _ _

pub loop-preserved : goal.loop-preserved
loop-preserved g c = low_more _ _ _ _ _ _ _ _ _ c.loop.invariant.0 c.loop.invariant.1 c.put-k.ensures

pub returns : goal.returns
returns g c = low_all _ _ _ _ _ _ _ c.loop.invariant.1 c.loop.auto.counter-end c.loop-test.false
