-- `test_text::words::digits` meets its contract.
use native.Mathlib.Omega.{arith}
use Rattle.test_text.proofs.Reading.{adding_begun, adding_none, adding_low, adding_high, adding_next}
use Rattle.test_text.proofs.words.digits.Goals as goal

pub loop-init : goal.loop-init
loop-init c = adding_begun _ _ _

pub returns-then-b-lt48 : goal.returns-then-b-lt48
returns-then-b-lt48 c = adding_low _ _ _ _ _ c.loop.invariant _ (omega arith) c.byte-b.ensures c.if-b-lt48.true

pub returns-then-b-gt57 : goal.returns-then-b-gt57
returns-then-b-gt57 c = adding_high _ _ _ _ _ c.loop.invariant _ (omega arith) c.byte-b.ensures c.if-b-lt48.false c.if-b-gt57.true

pub loop-preserved : goal.loop-preserved
loop-preserved c = adding_next _ _ _ _ _ _ c.loop.invariant _ _ _ c.loop-test.true c.byte-b.ensures c.if-b-lt48.false c.if-b-gt57.false c.more-v.ensures c.further-i.ensures

pub returns : goal.returns
returns c = adding_none _ _ _ _ _ c.loop.invariant (omega arith)
