-- try_from meets its contract: the loop follows `mark_from`, with the turns left to go, gathers the box on the way and tells whether it met k.
use mathlib.Core.Path.{◌≡◌}
use Prim.Native.Nat.{◌<◌, ◌-◌}
use Rattle.job.specs.Limits as limit
use Rattle.store.specs.Named.{points_of, next_of}
use Rattle.audit.specs.Marks.{mark_from}
use Rattle.handed.specs.Rounds.{Tried}
use Rattle.handed.proofs.Gathering.{Gathers}
use Rattle.handed.proofs.rounds.Tested.try_from.Given as goal

abbrev pub invariant-loop-turn : goal.invariant-loop-turn
invariant-loop-turn l = (mark_from (limit.POINTS - l._turn) (next_of l.self.w.now) (points_of l.self.w.now) l.marks l.p ≡ mark_from limit.POINTS (next_of l.self.w.now) (points_of l.self.w.now) l.initial.marks l.a)
    × Tried l.self.w.now l.initial.marks l.marks
    × Gathers l.self.w.now l.marks l.a l.k l.p (limit.POINTS - l._turn) l.met l.b
    × (l.p < l.self.m)
