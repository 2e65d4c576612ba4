-- `rows::points::any_faulty` meets its contract: the first faulty point ends the loop.
use mathlib.Core.Path.{◌≡◌}
use mathlib.Core.Bool.{false}
use Rattle.audit.specs.Tests.{any_below}
use Rattle.rows.specs.Found.{faulty_point}
use Rattle.rows.proofs.points.any_faulty.Given as goal

abbrev pub invariant-loop-k : goal.invariant-loop-k
invariant-loop-k l = any_below l.k (faulty_point l.w) ≡ false
