-- `joins::process_horz_joins` meets its contract: the loop follows the definition, and every join leaves words that keep the invariant.
use native.Mathlib.Omega.{arith}
use borrow.Author.Rules.{rules}
use Rattle.joins.proofs.Turns.{next, refused, done}
use Rattle.joins.proofs.process_horz_joins.Goals as goal

pub loop-i-preserved : goal.loop-i-preserved
loop-i-preserved c = (next _ _ _ _ _ _ _ _ _ c.loop-i.invariant.0 (search rules) c.point_at-a.ensures c.point_at-b.ensures c.join.ensures c.in_ok-join.was, search rules)

pub returns-in_err-join : goal.returns-in_err-join
returns-in_err-join c = search (rules, refused _ _ _ _ _ _ _ _ _ c.loop-i.invariant.0 (search rules) c.point_at-a.ensures c.point_at-b.ensures c.join.ensures _ c.in_err-join.was)

pub returns : goal.returns
returns c = search (rules, done)
