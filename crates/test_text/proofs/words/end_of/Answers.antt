-- `test_text::words::end_of` meets its contract.
use native.Mathlib.Omega.{arith}
use Rattle.test_text.proofs.Reading.{seeking_begun, seeking_none, seeking_ends, seeking_next}
use Rattle.test_text.proofs.words.end_of.Goals as goal

pub loop-init : goal.loop-init
loop-init c = seeking_begun _ _ _ _

pub returns-then-byte-stop : goal.returns-then-byte-stop
returns-then-byte-stop c = seeking_ends _ _ _ _ _ c.loop.invariant _ (omega arith) c.byte.ensures c.if-byte-stop.true

pub loop-preserved : goal.loop-preserved
loop-preserved c = seeking_next _ _ _ _ _ _ c.loop.invariant _ _ c.loop-test.true c.byte.ensures c.if-byte-stop.false c.further-i.ensures

pub returns : goal.returns
returns c = seeking_none _ _ _ _ _ c.loop.invariant (omega arith)
