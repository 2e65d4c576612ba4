-- is_on_ring meets its contract: the loop follows the walk, with the turns left to go.
use mathlib.Core.Path.{◌≡◌}
use Prim.Native.Nat.{◌-◌}
use Rattle.job.specs.Limits as limit
use Rattle.rings.specs.Walk.{run}
use Rattle.store.specs.Named.{next_of, ring_of}
use Rattle.audit.specs.Tests.{is_in}
use Rattle.audit.proofs.records.is_on_ring.Given as goal

abbrev pub invariant-loop-turn : goal.invariant-loop-turn
invariant-loop-turn l = is_in l.k (run (next_of l.w) l.a (limit.POINTS - l._turn) l.p) ≡ is_in l.k (ring_of l.w l.a)
