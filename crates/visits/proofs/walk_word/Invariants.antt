-- `visits::walk_word` meets its contract: the loop follows the ring as long as its points lie in one word.
use mathlib.Core.Path.{◌≡◌}
use mathlib.Core.Logic.{◌⊎◌}
use Prim.Native.Nat.{◌-◌, ◌<◌}
use Rattle.visits.specs.Marks.{Stretching}
use Rattle.visits.proofs.walk_word.Given as goal

abbrev pub invariant-loop-gone : goal.invariant-loop-gone
invariant-loop-gone l = Stretching l.w l.c.ring l.c.first l.c.point l.c.left l.word l.bits l.q (l.c.left - l.gone) × ((l.q ≡ l.c.point) ⊎ (0 < l.gone))
