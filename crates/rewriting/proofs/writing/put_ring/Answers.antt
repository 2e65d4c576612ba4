-- `rewriting::writing::put_ring` meets its contract: the loop follows the ring.
use native.Mathlib.Omega.{arith}
use Rattle.rewriting.proofs.Laying.{ring_begun, ring_back, ring_next, ring_over}
use Rattle.rewriting.proofs.writing.put_ring.Goals as goal

pub loop-init : goal.loop-init
loop-init c = ring_begun _ _ _ _ _

pub returns-then-p-a : goal.returns-then-p-a
returns-then-p-a c = ring_back c.loop.invariant (omega arith) _ _ _ c.put_corner-k.ensures c.read-p.ensures.0 c.if-p-a.true

pub loop-preserved : goal.loop-preserved
loop-preserved c = ring_next c.loop.invariant c.loop-test.true _ _ _ c.put_corner-k.ensures c.read-p.ensures.0 c.if-p-a.false

pub returns : goal.returns
returns c = ring_over c.loop.invariant (omega arith)
