-- `visits::resolving::note` meets its contract: every record on the way to the home has it too.
use mathlib.Core.Path.{◌≡◌}
use Prim.Native.Nat.{◌-◌}
use lib.ListN.{length}
use Rattle.job.specs.Limits.{RECORDS}
use Rattle.visits.proofs.Reaching.{Along}
use Rattle.visits.proofs.resolving.note.Given as goal

abbrev pub invariant-loop-turn : goal.invariant-loop-turn
invariant-loop-turn l = Along l.w l.r l.initial.homes l.q (RECORDS - l._turn) l.homes × (length l.homes ≡ length l.initial.homes)
