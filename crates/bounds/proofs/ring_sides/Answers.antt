-- ring_sides meets its contract: the loop follows the walk, with as many points to go as the count lacks.
use Rattle.std.proofs.Common.{suc, ◌+◌, ◌-◌, ◌≡◌, ◌≤◌, arith, rules}
use Rattle.job.specs.Limits.{POINTS}
use Rattle.bounds.proofs.Walking.{begins, back, onward, over}
use Rattle.bounds.proofs.ring_sides.Goals as goal

pub loop-init : goal.loop-init
loop-init c = (search begins, search rules)

pub returns-then-p-a : goal.returns-then-p-a
returns-then-p-a c = (search back, search rules)

pub loop-preserved : goal.loop-preserved
loop-preserved c = let h : suc (POINTS - (c.loop.counter + 1)) ≡ POINTS - c.loop.counter = omega arith in (search onward, search rules)

pub returns : goal.returns
returns c = let h : POINTS - c.loop.counter ≤ 0 = omega arith in (search over, search rules)
