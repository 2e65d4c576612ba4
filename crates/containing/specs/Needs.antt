-- What the functions of this crate ask, and what their loops keep; no statement needs it.
use Rattle.std.specs.Prelude.{ℕ, ◌^◌, ◌≡◌, Bool, List}
use Rattle.std.proofs.Math.Option.{Option, some}
use Rattle.exact.specs.Num.{Within}
use Rattle.geometry.specs.declared.Point.{Point}
use Rattle.geometry.specs.declared.Rect.{Rect}
use Rattle.geometry.specs.Box.{widen_all}
use Rattle.listing.specs.Fields.{points_in}
use Rattle.listing.specs.Needs.{Run}
use Rattle.polygons.specs.declared.PointInPolygonResult.{PointInPolygonResult}
use Rattle.containing.specs.Contains.{decide, places}

-- a box within the limit
pub record BoxIn (b : Rect) : Type 0 where
  pub left : Within (2 ^ 20) b.left
  pub top : Within (2 ^ 20) b.top
  pub right : Within (2 ^ 20) b.right
  pub bottom : Within (2 ^ 20) b.bottom

-- ---- loops in the making: `left` points are still to come, the first of them at `at`
-- a box that widens to `total`
pub record Widening (t : List ℕ) (b : Rect) (at left : ℕ) (total : Option Rect) : Type 0 where
  pub rest : Run t left at
  pub all : some (widen_all b (points_in t left at)) ≡ total

-- the places of path1's points
pub record Deciding (t : List ℕ) (path2 : List Point) (last : PointInPolygonResult) (at left : ℕ) (middle total : Bool) : Type 0 where
  pub rest : Run t left at
  pub all : decide last (places path2 (points_in t left at)) middle ≡ total
