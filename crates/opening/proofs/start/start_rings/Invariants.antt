-- `opening::start::start_rings` meets its contract: the loop follows the definition.
use mathlib.Core.Path.{◌≡◌}
use lib.ListN.{length}
use Rattle.opening.specs.Start.{start_to}
use Rattle.opening.proofs.start.start_rings.Given as goal

abbrev pub invariant-loop-i : goal.invariant-loop-i
invariant-loop-i l = (l.w ≡ start_to l.i l.initial.w) × (length l.w ≡ length l.initial.w)
