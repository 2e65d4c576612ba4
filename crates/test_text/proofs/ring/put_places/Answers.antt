-- `test_text::ring::put_places` meets its contract.
use native.Mathlib.Omega.{arith}
use Rattle.test_text.proofs.Ringing.{placing_begun, placing_none, placing_next, placing_last}
use Rattle.test_text.proofs.ring.put_places.Goals as goal

pub loop-init : goal.loop-init
loop-init c = placing_begun _ _ _ _ _

pub returns-then-p-a : goal.returns-then-p-a
returns-then-p-a c = placing_last _ _ _ _ _ _ _ _ _ c.loop.invariant _ _ _ (omega arith) c.put_place-k.ensures c.read-p.ensures.0 c.if-p-a.true

pub loop-preserved : goal.loop-preserved
loop-preserved c = placing_next _ _ _ _ _ _ _ _ _ c.loop.invariant _ _ _ c.loop-test.true c.put_place-k.ensures c.read-p.ensures.0 c.if-p-a.false

pub returns : goal.returns
returns c = placing_none _ _ _ _ _ _ _ _ _ c.loop.invariant (omega arith)
