-- `test_text::ring::count` meets its contract.
use native.Mathlib.Omega.{arith}
use Rattle.test_text.proofs.Ringing.{counting_begun, counting_none, counting_next, counting_last}
use Rattle.test_text.proofs.ring.count.Goals as goal

pub loop-init : goal.loop-init
loop-init c = counting_begun _ _

pub returns-then-p-a : goal.returns-then-p-a
returns-then-p-a c = counting_last _ _ _ _ _ c.loop.invariant _ (omega arith) c.read-p.ensures.0 c.if-p-a.true

pub loop-preserved : goal.loop-preserved
loop-preserved c = counting_next _ _ _ _ _ c.loop.invariant _ c.loop-test.true c.read-p.ensures.0 c.if-p-a.false

pub returns : goal.returns
returns c = counting_none _ _ _ _ _ c.loop.invariant (omega arith)
