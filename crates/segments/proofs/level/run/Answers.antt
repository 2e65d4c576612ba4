-- `segments::level::run` meets its contract.
use Rattle.segments.proofs.Running.{end, next, falls, run_begun}
use Rattle.segments.proofs.level.run.Goals as goal

pub loop-h-init : goal.loop-h-init
loop-h-init c = search run_begun

pub returns-then-halts : goal.returns-then-halts
returns-then-halts c = search end

pub loop-h-smaller : goal.loop-h-smaller
loop-h-smaller c = search falls

pub loop-h-preserved : goal.loop-h-preserved
loop-h-preserved c = search next
