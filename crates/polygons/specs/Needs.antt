-- What the functions of this crate ask, and what their loops keep; no statement needs it.
use Rattle.std.specs.Prelude.{ℕ, ◌+◌, ◌-◌, ◌≤◌, ◌≡◌, false, List}
use Rattle.geometry.specs.declared.Point.{Point}
use Rattle.listing.specs.Fields.{point_in, points_in}
use Rattle.listing.specs.Needs.{Held, Run}
use Rattle.rays.specs.Needs.{BeginsOn}
use Rattle.polygons.specs.declared.Tour.{Tour}
use Rattle.polygons.specs.Polygon.{walk, levels}

-- a tour at p that has not met the point knows its side
pub record Sided (pt : Point) (s : Tour) (p : Point) : Type 0 where
  pub known : s.on ≡ false → BeginsOn pt s.above p

-- ---- loops in the making: `left` points are still to come, the first of them at `at`
-- a walk that comes to `total`: the last vertex met is at `before`
pub record Walking (pt : Point) (t : List ℕ) (before at left : ℕ) (s total : Tour) : Type 0 where
  pub here : Held t before
  pub side : Sided pt s (point_in t before)
  pub rest : Run t left at
  pub all : walk pt s (point_in t before) (points_in t left at) ≡ total

-- n - left vertices on the level are counted
pub record Leveling (pt : Point) (t : List ℕ) (n at left total : ℕ) : Type 0 where
  pub rest : Run t left at
  pub few : left ≤ n
  pub all : n - left + levels pt (points_in t left at) ≡ total
