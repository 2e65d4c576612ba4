-- `finish_record` meets its contract: each turn is steps that only move on, and then one more; they lower the measure.
use borrow.Author.Rules.{rules}
use Rattle.steps.proofs.Looping.{begun, next_on, fallen_on, stop_on}
use Rattle.steps.proofs.finish.finish_record.Goals as goal

pub loop-e-init : goal.loop-e-init
loop-e-init c = search (begun, rules)

pub returns-in-Err : goal.returns-in-Err
returns-in-Err c = search stop_on

pub loop-e-smaller : goal.loop-e-smaller
loop-e-smaller c = search fallen_on

pub loop-e-preserved : goal.loop-e-preserved
loop-e-preserved c = search next_on
