-- `opening::start::start_rings` meets its contract: the loop follows the definition.
use borrow.Author.Rules.{rules}
use mathlib.Core.Path.{refl}
use Rattle.opening.proofs.Starting.{start_none, start_next}
use Rattle.opening.proofs.start.start_rings.Goals as goal

pub loop-i-init : goal.loop-i-init
loop-i-init c = (start_none _, refl)

pub loop-i-preserved : goal.loop-i-preserved
loop-i-preserved c = (search start_next, search rules)
