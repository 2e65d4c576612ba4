-- `rows::points::any_faulty` meets its contract: the first faulty point ends the loop.
use Rattle.audit.proofs.Testing.{none, more, hit}
use Rattle.rows.proofs.points.any_faulty.Goals as goal

pub loop-k-init : goal.loop-k-init
loop-k-init c = none _

pub returns-then-is_faulty : goal.returns-then-is_faulty
returns-then-is_faulty c = search hit

pub loop-k-preserved : goal.loop-k-preserved
loop-k-preserved c = search more
