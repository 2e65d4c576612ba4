-- `numbering::number_ring` meets its contract: the loop follows the ring.
use native.Mathlib.Omega.{arith}
use Rattle.numbering.proofs.Rounds.{numbering_begun, numbering_back, numbering_next, numbering_over}
use Rattle.numbering.proofs.number_ring.Goals as goal

pub loop-init : goal.loop-init
loop-init c = numbering_begun _ _ _ _

pub returns-then-p-a : goal.returns-then-p-a
returns-then-p-a c = numbering_back c.loop.invariant (omega arith) _ _ c.set_number.ensures c.read-p.ensures.0 c.if-p-a.true

pub loop-preserved : goal.loop-preserved
loop-preserved c = numbering_next c.loop.invariant c.loop-test.true _ _ c.set_number.ensures c.read-p.ensures.0 c.if-p-a.false

pub returns : goal.returns
returns c = numbering_over c.loop.invariant (omega arith)
