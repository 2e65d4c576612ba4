-- mark_from meets its contract: the loop follows `mark_from`, with the turns left to go.
use borrow.Author.Rules.{rules}
use Prim.Native.Nat.{◌-◌}
use Rattle.job.specs.Limits as limit
use Rattle.audit.proofs.Testing.{mark_out, mark_met, mark_on, mark_over}
use Rattle.audit.proofs.walks.mark_from.Goals as goal

pub returns-then-m-p : goal.returns-then-m-p
returns-then-m-p c = search mark_out

pub returns-then-marks-p-ne0 : goal.returns-then-marks-p-ne0
returns-then-marks-p-ne0 c = search mark_met

pub loop-turn-preserved : goal.loop-turn-preserved
loop-turn-preserved c = search (rules, mark_on)

pub returns : goal.returns
returns c = mark_over _ _ _ _ _ (limit.POINTS - c.loop-turn._turn) (search rules) c.loop-turn.invariant
