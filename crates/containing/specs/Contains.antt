-- Whether one path lies in another: `path2_contains_path1` of engine_fns.rs.
use Rattle.std.specs.Prelude.{Bool, true, false, ◌&&◌, List, [], ◌∷◌}
use Rattle.std.proofs.Math.Option.{Option, none, some}
use Rattle.geometry.specs.declared.Point.{Point}
use Rattle.geometry.specs.declared.Rect.{Rect}
use Rattle.geometry.specs.Box.{box_of}
use Rattle.polygons.specs.declared.PointInPolygonResult.{PointInPolygonResult}
use Rattle.polygons.specs.declared.PointInPolygonResult.TheVariants.{IsOn, IsInside, IsOutside}
use Rattle.polygons.specs.Polygon.{point_in_polygon}
use Rattle.containing.specs.Middle.{mid_point}

abbrev pub is_inside : PointInPolygonResult → Bool
is_inside IsOn = false
is_inside IsInside = true
is_inside IsOutside = false

-- by the places of path1's points, in their order: two inside, with none outside between them, say yes, and two outside, with none inside between them, no; points on
-- path2 say nothing. Undecided at the end, it is no unless the last one off path2 was inside, and then the middle of path1's box decides
abbrev pub decide : PointInPolygonResult → List PointInPolygonResult → Bool → Bool
decide last [] middle = is_inside last && middle
decide last (IsOn ∷ rs) middle = decide last rs middle
decide IsInside (IsInside ∷ rs) middle = true
decide IsOutside (IsOutside ∷ rs) middle = false
decide IsOn (IsInside ∷ rs) middle = decide IsInside rs middle
decide IsOutside (IsInside ∷ rs) middle = decide IsInside rs middle
decide IsOn (IsOutside ∷ rs) middle = decide IsOutside rs middle
decide IsInside (IsOutside ∷ rs) middle = decide IsOutside rs middle

-- a place that decides, after the last one off path2, and what else it leaves as the last one
abbrev pub is_outside : PointInPolygonResult → Bool
is_outside IsOn = false
is_outside IsInside = false
is_outside IsOutside = true

abbrev pub repeats : PointInPolygonResult → PointInPolygonResult → Bool
repeats last IsOn = false
repeats last IsInside = is_inside last
repeats last IsOutside = is_outside last

abbrev pub latest : PointInPolygonResult → PointInPolygonResult → PointInPolygonResult
latest last IsOn = last
latest last IsInside = IsInside
latest last IsOutside = IsOutside

-- where the points of a path lie in respect of another
abbrev pub places : List Point → List Point → List PointInPolygonResult
places path2 [] = []
places path2 (p ∷ ps) = point_in_polygon p path2 ∷ places path2 ps

-- whether the middle of a path's box lies inside another; a path of no points has no box
abbrev pub middle_inside : Option Rect → List Point → Bool
middle_inside none path2 = false
middle_inside (some b) path2 = is_inside (point_in_polygon (mid_point b) path2)

unfoldable pub path2_contains_path1 : List Point → List Point → Bool
path2_contains_path1 path1 path2 = decide IsOn (places path2 path1) (middle_inside (box_of path1) path2)
