-- `joins::fix_outrec_pts` meets its contract: the loop follows the ring from its first point.
use mathlib.Core.Path.{◌≡◌}
use lib.ListN.{length}
use Rattle.joins.specs.Join.{fix_outrec_pts}
use Rattle.joins.proofs.Renaming.{Naming, to_go}
use Rattle.joins.proofs.fix_outrec_pts.Given as goal

abbrev pub invariant-loop-p : goal.invariant-loop-p
invariant-loop-p l = Naming (fix_outrec_pts l.initial.w l.k) l.w l.k l.start l.p × (length l.w ≡ length l.initial.w)

abbrev pub decreases-loop-p : goal.decreases-loop-p
decreases-loop-p l = to_go l.w l.start l.p
