-- `visits::resolving::find_all` meets its contract: no chain circles, so each record's home can be reached and written down.
use mathlib.Core.Path.{◌≡◌}
use lib.ListN.{length}
use Rattle.owners.specs.Tables.{Found}
use Rattle.visits.proofs.resolving.find_all.Given as goal

abbrev pub invariant-loop-i : goal.invariant-loop-i
invariant-loop-i l = Found l.w l.homes l.i × (length l.homes ≡ length l.initial.homes)
