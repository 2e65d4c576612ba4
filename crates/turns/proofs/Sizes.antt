-- The doubled area of a ring fits its number.
use Prim.Native.Nat.{ℕ, ◌≤◌, ◌<◌}
use mathlib.Core.List.{List, [], ◌∷◌, map}
use native.Mathlib.Omega.{arith}
use lib.ListN.{length, length-map}
use mir.Syntax.{w64}
use mir.Val.{SFits}
use Rattle.exact.proofs.Size.{fits_size}
use Rattle.job.specs.Limits as limit
use Rattle.rings.specs.Count.{occ}
use Rattle.rings.proofs.Counting.{occ_head}
use Rattle.geometry.specs.Plane.{area_outpt}
use Rattle.geometry.specs.Table.{AllInTable}
use Rattle.geometry.proofs.Circles.{area_within_53}
use Rattle.store.specs.Words.{view}
use Rattle.store.specs.Good.{PointIn}
use Rattle.store.specs.Value.{point_of}
use Rattle.store.specs.Named.{ring_of}
use Rattle.walks.specs.Ring.{OnRing, values_from}
use Rattle.walks.proofs.Visiting.{ring_short, table_at}

-- ---- areas fit
tables_of : (w : List ℕ) (l : List ℕ) → ((k : ℕ) → 0 < occ k l → PointIn (view w) k) → AllInTable (map (point_of w) l)
tables_of w [] h = tt
tables_of w (k ∷ l) h = (table_at w k (h k (occ_head k l)), tables_of w l (λ j p. h j (omega arith)))

pub ring_fits : (w : List ℕ) (a : ℕ) → OnRing w a → SFits w64 (area_outpt (values_from w a))
ring_fits w a o =
    let n : length (values_from w a) ≤ limit.POINTS = omega (arith, length-map (ring_of w a) (point_of w), ring_short w a o) in
    let k = (area_within_53 (values_from w a) (tables_of w (ring_of w a) o.points_in_lem) n).size in
    fits_size w64 (area_outpt (values_from w a)) (omega arith)
