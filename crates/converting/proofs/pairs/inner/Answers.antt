-- `converting::pairs::inner` meets its contract: the loop follows the definition.
use borrow.Author.Rules.{rules}
use Rattle.converting.proofs.Looping.{inner_stop, inner_next, inner_full, inner_done}
use Rattle.converting.proofs.pairs.inner.Goals as goal

pub returns-then-load-eq-NONE : goal.returns-then-load-eq-NONE
returns-then-load-eq-NONE c = inner_stop _ _ _ _ _ _ _ _ _ c.loop-j.invariant.0 (search rules) _ c.load.ensures c.if-load-eq-NONE.true

pub loop-j-preserved : goal.loop-j-preserved
loop-j-preserved c = (inner_next _ _ _ _ _ _ _ _ _ c.loop-j.invariant.0 (search rules) _ c.load.ensures c.if-load-eq-NONE.false _ _ _ _ c.pair.ensures _ c.in_ok-m.was, search rules, search rules, search rules)

pub returns-in_err-m : goal.returns-in_err-m
returns-in_err-m c = rw c.from_residual.ensures (inner_full _ _ _ _ _ _ _ _ _ c.loop-j.invariant.0 (search rules) _ c.load.ensures c.if-load-eq-NONE.false _ _ _ _ c.pair.ensures c.in_err-m.was)

pub returns : goal.returns
returns c = inner_done _ _ _ _ _ _ _ _ _ c.loop-j.invariant.0 (search rules)
