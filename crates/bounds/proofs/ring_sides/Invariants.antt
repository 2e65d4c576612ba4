-- ring_sides meets its contract: the loop follows the walk, with as many points to go as the count lacks.
use Prim.Native.Nat.{◌-◌}
use mathlib.Core.Path.{◌≡◌}
use Rattle.job.specs.Limits.{POINTS}
use Rattle.store.specs.Words.{view}
use Rattle.store.specs.Named.{next_of}
use Rattle.store.specs.Needs.{Small}
use Rattle.bounds.specs.Along.{widen_along}
use Rattle.bounds.proofs.Walking.{rest, found}
use Rattle.bounds.proofs.ring_sides.Given as goal

abbrev pub invariant-loop : goal.invariant-loop
invariant-loop l = (widen_along (view l.w) l.b (rest (next_of l.w) l.a (POINTS - l.counter) l.p) ≡ found (view l.w) l.a) × Small l.b
