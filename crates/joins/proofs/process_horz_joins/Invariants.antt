-- `joins::process_horz_joins` meets its contract: the loop follows the definition, and every join leaves words that keep the invariant.
use mathlib.Core.Path.{◌≡◌}
use lib.ListN.{length}
use Rattle.joins.specs.Join.{process_horz_joins}
use Rattle.joins.proofs.Turns.{Going}
use Rattle.joins.proofs.process_horz_joins.Given as goal

abbrev pub invariant-loop-i : goal.invariant-loop-i
invariant-loop-i l = Going (process_horz_joins l.n l.joins l.initial.w) l.n l.joins l.w l.i × (length l.w ≡ length l.initial.w)
