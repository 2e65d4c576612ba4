-- The definitions computed: boxes and middles, one path in another. The answers are those of the Rust.
use mathlib.Core.Path.{◌≡◌, refl}
use mathlib.Core.Bool.{Bool, true, false}
use mathlib.Core.List.{List, [], ◌∷◌}
use mathlib.Core.Option.{some}
use lib.IntN.{ℤ, pos, negsuc}
use Rattle.geometry.specs.declared.Point.{Point}
use Rattle.geometry.specs.Plane.{cross_product_sign}
use Rattle.geometry.specs.Box.{widen, box_of}
use Rattle.rays.specs.Edge.{level_way, over_way, way_of}
use Rattle.polygons.specs.Polygon.{along, point_in_polygon}
use Rattle.containing.specs.Middle.{mid_point}
use Rattle.containing.specs.Contains.{path2_contains_path1}

abbrev at : ℤ → ℤ → Point
at x y = record { x = x; y = y; z = 0 }

abbrev square : List Point
square = at (pos 0) (pos 0) ∷ at (pos 10) (pos 0) ∷ at (pos 10) (pos 10) ∷ at (pos 0) (pos 10) ∷ []

-- ---- a box, and its middle halved toward zero
box : box_of (at (pos 3) (negsuc 6) ∷ at (negsuc 7) (pos 2) ∷ at (pos 1) (pos 0) ∷ []) ≡ some (record { left = negsuc 7; top = negsuc 6; right = pos 3; bottom = pos 2 })
unfolding widen
box = refl

middle : mid_point (record { left = negsuc 7; top = negsuc 6; right = pos 3; bottom = pos 2 }) ≡ at (negsuc 1) (negsuc 1)
unfolding mid_point
middle = refl

-- ---- one path in another
pub record Pair : Type 0 where
  pub path1 : List Point
  pub path2 : List Point
  pub is : Bool

abbrev pair : List Point → List Point → Bool → Pair
pair a b r = record { path1 = a; path2 = b; is = r }

abbrev answers : List Pair → List Bool
answers [] = []
answers (r ∷ rs) = path2_contains_path1 r.path1 r.path2 ∷ answers rs

abbrev right : List Pair → List Bool
right [] = []
right (r ∷ rs) = r.is ∷ right rs

abbrev triangle : List Point
triangle = at (pos 2) (pos 2) ∷ at (pos 8) (pos 2) ∷ at (pos 5) (pos 8) ∷ []

abbrev pairs : List Pair
pairs =
    -- a triangle in a square
    pair triangle square true ∷
    -- the square in the triangle
    pair square triangle false ∷
    -- apart
    pair (at (pos 20) (pos 20) ∷ at (pos 30) (pos 20) ∷ at (pos 25) (pos 30) ∷ []) square false ∷
    -- inscribed, every vertex on an edge: undecided, so no
    pair (at (pos 5) (pos 0) ∷ at (pos 10) (pos 5) ∷ at (pos 5) (pos 10) ∷ at (pos 0) (pos 5) ∷ []) square false ∷
    -- one vertex inside, the others on the edges: the middle decides
    pair (at (pos 0) (pos 0) ∷ at (pos 10) (pos 0) ∷ at (pos 5) (pos 5) ∷ []) square true ∷
    -- one vertex outside only
    pair (at (pos 0) (pos 0) ∷ at (pos 10) (pos 0) ∷ at (pos 5) (negsuc 4) ∷ []) square false ∷
    -- the middle is on a notch: no
    pair (at (pos 0) (pos 0) ∷ at (pos 20) (pos 0) ∷ at (pos 10) (pos 2) ∷ []) (at (pos 0) (pos 0) ∷ at (pos 0) (pos 20) ∷ at (pos 10) (pos 1) ∷ at (pos 20) (pos 20) ∷ at (pos 20) (pos 0) ∷ []) false ∷
    -- the same twice
    pair square square false ∷
    []

pub contained : answers pairs ≡ right pairs
unfolding path2_contains_path1 mid_point widen point_in_polygon along way_of over_way level_way cross_product_sign
contained = refl
