-- `owners::any_circle` meets its contract: the first chain that circles ends the loop.
use mathlib.Core.Path.{◌≡◌}
use mathlib.Core.Bool.{false}
use lib.ListN.{length}
use Rattle.job.specs.Limits.{RECORDS}
use Rattle.audit.specs.Tests.{any_below}
use Rattle.owners.specs.Owners.{circles}
use Rattle.owners.specs.Tables.{Lengths}
use Rattle.owners.proofs.any_circle.Given as goal

abbrev pub invariant-loop-i : goal.invariant-loop-i
invariant-loop-i l = (any_below l.i (circles l.w) ≡ false) × Lengths l.w l.lengths × (length l.lengths ≡ RECORDS)
