-- `visits::resolving::walk` meets its contract: the walk follows `find_in`, with the turns left to go.
use mathlib.Core.Path.{◌≡◌}
use Prim.Native.Nat.{◌-◌}
use Rattle.job.specs.Limits.{RECORDS}
use Rattle.store.specs.Named.{first_of, owner_of}
use Rattle.joins.specs.Resolve.{find_in}
use Rattle.visits.proofs.resolving.walk.Given as goal

abbrev pub invariant-loop-turn : goal.invariant-loop-turn
invariant-loop-turn l = find_in (RECORDS - l._turn) (first_of l.w) (owner_of l.w) l.q ≡ find_in RECORDS (first_of l.w) (owner_of l.w) l.r
