-- The bytes of a raised word's signed number, and the point of a store.
use mathlib.Core.Path.{◌≡◌}
use Prim.Native.Nat.{ℕ, ◌≤◌, ◌<◌}
use native.Mathlib.Decide.{dec_lt}
use native.Mathlib.Omega.{arith}
use mir.Syntax.{w32}
use mir.Val.{of_z}
use Rattle.numbers.specs.Raised.{lowered, coordinate}
use Rattle.numbers.proofs.Raises.{at_least, less}
use Rattle.job.specs.Limits.{COORDINATE}
use Rattle.geometry.specs.declared.Point.{Point}
use Rattle.store.specs.Words.{Store}
use Rattle.store.specs.Value as value
use Rattle.paths.specs.Path.{point_at}

-- the four bytes of a coordinate
pub coordinate_bits : (v : ℕ) → v ≤ 2097152 → of_z w32 (coordinate COORDINATE v) ≡ lowered COORDINATE v
coordinate_bits v h = on (dec_lt v COORDINATE)
  where
    on : Dec (v < COORDINATE) → of_z w32 (coordinate COORDINATE v) ≡ lowered COORDINATE v
    on (yes l) = rw (less v COORDINATE l) (omega arith)
    on (no n) = rw (at_least v COORDINATE (omega arith)) (omega arith)

-- the store's point is the path's, which stays folded
pub point_is : (s : Store) (k : ℕ) (p : Point) → p ≡ value.point_at s k → p ≡ point_at s k
unfolding point_at
point_is s k p e = e
