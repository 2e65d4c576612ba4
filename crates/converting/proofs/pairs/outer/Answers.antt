-- `converting::pairs::outer` meets its contract: the loop follows the definition.
use borrow.Author.Rules.{rules}
use Rattle.converting.proofs.Looping.{outer_stop, outer_next, outer_full, outer_done}
use Rattle.converting.proofs.pairs.outer.Goals as goal

pub returns-then-load-eq-NONE : goal.returns-then-load-eq-NONE
returns-then-load-eq-NONE c = outer_stop _ _ _ _ _ _ _ _ c.loop-i.invariant.0 (search rules) _ c.load.ensures c.if-load-eq-NONE.true

pub loop-i-preserved : goal.loop-i-preserved
loop-i-preserved c = (outer_next _ _ _ _ _ _ _ _ c.loop-i.invariant.0 (search rules) _ c.load.ensures c.if-load-eq-NONE.false _ _ _ _ c.inner.ensures _ c.in_ok-m.was, search rules, search rules, search rules)

pub returns-in_err-m : goal.returns-in_err-m
returns-in_err-m c = rw c.from_residual.ensures (outer_full _ _ _ _ _ _ _ _ c.loop-i.invariant.0 (search rules) _ c.load.ensures c.if-load-eq-NONE.false _ _ _ _ c.inner.ensures c.in_err-m.was)

pub returns : goal.returns
returns c = outer_done _ _ _ _ _ _ _ _ c.loop-i.invariant.0 (search rules)
