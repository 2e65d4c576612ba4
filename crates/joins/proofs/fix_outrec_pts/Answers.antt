-- `joins::fix_outrec_pts` meets its contract: the loop follows the ring from its first point.
use borrow.Author.Rules.{rules}
use mathlib.Core.Path.{refl}
use Rattle.joins.proofs.Renaming.{begun, along, falls, over}
use Rattle.joins.proofs.fix_outrec_pts.Goals as goal

pub loop-p-init : goal.loop-p-init
loop-p-init c = (search begun, refl)

pub loop-p-smaller : goal.loop-p-smaller
loop-p-smaller c = search falls

pub loop-p-preserved : goal.loop-p-preserved
loop-p-preserved c = (search along, search rules)

pub returns : goal.returns
returns c = over _ _ _ _ _ _ _ c.set.ensures c.get-p.ensures.0 c.loop-p.invariant.0 c.if-p-start.true
