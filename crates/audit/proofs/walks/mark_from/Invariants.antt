-- mark_from meets its contract: the loop follows `mark_from`, with the turns left to go.
use mathlib.Core.Path.{◌≡◌}
use Prim.Native.Nat.{◌-◌}
use Rattle.job.specs.Limits as limit
use Rattle.store.specs.Named.{points_of, next_of}
use Rattle.audit.specs.Marks.{mark_from}
use Rattle.audit.proofs.walks.mark_from.Given as goal

abbrev pub invariant-loop-turn : goal.invariant-loop-turn
invariant-loop-turn l = mark_from (limit.POINTS - l._turn) (next_of l.w) (points_of l.w) l.marks l.p ≡ mark_from limit.POINTS (next_of l.w) (points_of l.w) l.initial.marks l.a
