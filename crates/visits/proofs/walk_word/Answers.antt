-- `visits::walk_word` meets its contract: the loop follows the ring as long as its points lie in one word.
use mathlib.Core.Path.{refl}
use mathlib.Core.Logic.{inl, inr}
use Rattle.std.proofs.Common.{arith, rules}
use Rattle.visits.proofs.Rounds.{stretch_begun, stretch_met, stretch_back, stretch_more, stretch_over}
use Rattle.visits.proofs.walk_word.Goals as goal

pub loop-gone-init : goal.loop-gone-init
loop-gone-init c = (stretch_begun _ _ _ _ _ _ _ (omega arith), inl refl)

pub returns-then-elsewhere : goal.returns-then-elsewhere
returns-then-elsewhere c = stretch_met c.loop-gone.invariant.0 (omega arith) (omega arith) _ c.elsewhere.ensures c.if-elsewhere.true

pub returns-then-q-c : goal.returns-then-q-c
returns-then-q-c c = search (rules, stretch_back)

pub loop-gone-preserved : goal.loop-gone-preserved
loop-gone-preserved c = (stretch_more c.loop-gone.invariant.0 (omega arith) (omega arith) _ c.elsewhere.ensures _ _ (search rules) (search rules) c.with_bit-bits.ensures c.read-q.ensures.0 _ (omega arith) (search rules), inr (search rules))

pub returns : goal.returns
returns c = stretch_over c.loop-gone.invariant.0 (omega arith)
