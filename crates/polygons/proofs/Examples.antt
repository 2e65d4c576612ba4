-- The crossing rule computed: where points lie. The answers are those of the Rust.
use mathlib.Core.Path.{◌≡◌, refl}
use mathlib.Core.List.{List, [], ◌∷◌}
use lib.IntN.{ℤ, pos, negsuc}
use Rattle.geometry.specs.declared.Point.{Point}
use Rattle.polygons.specs.declared.PointInPolygonResult.{PointInPolygonResult}
use Rattle.polygons.specs.declared.PointInPolygonResult.TheVariants.{IsOn, IsInside, IsOutside}
use Rattle.geometry.specs.Plane.{cross_product_sign}
use Rattle.rays.specs.Edge.{level_way, over_way, way_of}
use Rattle.polygons.specs.Polygon.{along, point_in_polygon}

abbrev at : ℤ → ℤ → Point
at x y = record { x = x; y = y; z = 0 }

-- a point, a path, and what is expected
pub record Row : Type 0 where
  pub pt : Point
  pub path : List Point
  pub is : PointInPolygonResult

abbrev row : Point → List Point → PointInPolygonResult → Row
row p l r = record { pt = p; path = l; is = r }

abbrev results : List Row → List PointInPolygonResult
results [] = []
results (r ∷ rs) = point_in_polygon r.pt r.path ∷ results rs

abbrev expected : List Row → List PointInPolygonResult
expected [] = []
expected (r ∷ rs) = r.is ∷ expected rs

abbrev square : List Point
square = at (pos 0) (pos 0) ∷ at (pos 10) (pos 0) ∷ at (pos 10) (pos 10) ∷ at (pos 0) (pos 10) ∷ []

abbrev rows : List Row
rows =
    -- well inside a square
    row (at (pos 5) (pos 5)) square IsInside ∷
    -- left of it
    row (at (negsuc 2) (pos 5)) square IsOutside ∷
    -- right of it
    row (at (pos 13) (pos 5)) square IsOutside ∷
    -- on a level edge
    row (at (pos 5) (pos 0)) square IsOn ∷
    -- on an upright edge
    row (at (pos 10) (pos 5)) square IsOn ∷
    -- on a vertex
    row (at (pos 10) (pos 10)) square IsOn ∷
    -- on the last edge, back to the first vertex
    row (at (pos 0) (pos 5)) square IsOn ∷
    -- level with the first two vertices, and off the path
    row (at (negsuc 3) (pos 0)) square IsOutside ∷
    -- level with the first vertex of a diamond, inside
    row (at (pos 5) (pos 0)) (at (pos 0) (pos 0) ∷ at (pos 5) (negsuc 4) ∷ at (pos 10) (pos 0) ∷ at (pos 5) (pos 5) ∷ []) IsInside ∷
    -- level with two vertices of a diamond, outside
    row (at (pos 12) (pos 0)) (at (pos 0) (pos 0) ∷ at (pos 5) (negsuc 4) ∷ at (pos 10) (pos 0) ∷ at (pos 5) (pos 5) ∷ []) IsOutside ∷
    -- all vertices level, the point among them
    row (at (pos 5) (pos 0)) (at (pos 0) (pos 0) ∷ at (pos 10) (pos 0) ∷ at (pos 20) (pos 0) ∷ []) IsOutside ∷
    -- all but the last level, the point on the level edge
    row (at (pos 5) (pos 0)) (at (pos 0) (pos 0) ∷ at (pos 10) (pos 0) ∷ at (pos 5) (pos 9) ∷ []) IsOn ∷
    -- all but the last level, past it
    row (at (pos 15) (pos 0)) (at (pos 0) (pos 0) ∷ at (pos 10) (pos 0) ∷ at (pos 5) (pos 9) ∷ []) IsOutside ∷
    -- two vertices only, the point on the edge
    row (at (pos 5) (pos 5)) (at (pos 0) (pos 0) ∷ at (pos 10) (pos 10) ∷ []) IsOutside ∷
    -- no vertex
    row (at (pos 0) (pos 0)) ([]) IsOutside ∷
    -- on a spike that goes out level and back
    row (at (pos 15) (pos 5)) (at (pos 0) (pos 0) ∷ at (pos 10) (pos 0) ∷ at (pos 10) (pos 5) ∷ at (pos 20) (pos 5) ∷ at (pos 10) (pos 5) ∷ at (pos 10) (pos 10) ∷ at (pos 0) (pos 10) ∷ []) IsOn ∷
    -- past the end of that spike
    row (at (pos 25) (pos 5)) (at (pos 0) (pos 0) ∷ at (pos 10) (pos 0) ∷ at (pos 10) (pos 5) ∷ at (pos 20) (pos 5) ∷ at (pos 10) (pos 5) ∷ at (pos 10) (pos 10) ∷ at (pos 0) (pos 10) ∷ []) IsOutside ∷
    -- inside, level with that spike
    row (at (pos 5) (pos 5)) (at (pos 0) (pos 0) ∷ at (pos 10) (pos 0) ∷ at (pos 10) (pos 5) ∷ at (pos 20) (pos 5) ∷ at (pos 10) (pos 5) ∷ at (pos 10) (pos 10) ∷ at (pos 0) (pos 10) ∷ []) IsInside ∷
    -- on a slanting edge
    row (at (pos 3) (pos 6)) (at (pos 0) (pos 0) ∷ at (pos 10) (pos 20) ∷ at (negsuc 9) (pos 20) ∷ []) IsOn ∷
    -- in the notch of an M, below its inner vertex
    row (at (pos 10) (pos 3)) (at (pos 0) (pos 0) ∷ at (pos 0) (pos 20) ∷ at (pos 10) (pos 5) ∷ at (pos 20) (pos 20) ∷ at (pos 20) (pos 0) ∷ []) IsInside ∷
    -- in the notch of an M, above its inner vertex
    row (at (pos 10) (pos 8)) (at (pos 0) (pos 0) ∷ at (pos 0) (pos 20) ∷ at (pos 10) (pos 5) ∷ at (pos 20) (pos 20) ∷ at (pos 20) (pos 0) ∷ []) IsOutside ∷
    []

pub placed : results rows ≡ expected rows
unfolding point_in_polygon along way_of over_way level_way cross_product_sign
placed = refl
