-- Where a point lies in respect of a closed path: the crossing rule of `point_in_polygon` of core.rs, over whole numbers.
-- Go once round the path, edge by edge, from the first vertex off the point's level. The point is ON the path where it is a vertex, lies between the ends of a level edge, or lies on
-- an edge that goes over its level. Else each time the path has gone over the point's level, from one side to the other, it passed the point on its left (a crossing) or on its
-- right, and the point is INSIDE after an odd number of crossings, OUTSIDE after an even number.
use Rattle.std.specs.Prelude.{ℕ, suc, Bool, true, false, cond, not, List, [], ◌∷◌, ◌++◌, ltb, length, take, drop}
use Rattle.geometry.specs.declared.Point.{Point}
use Rattle.rays.specs.declared.Way.{Way}
use Rattle.rays.specs.declared.Way.TheVariants.{Touches, Stays, Passes, Crosses}
use Rattle.rays.specs.Edge.{is_level, is_above, way_of}
use Rattle.polygons.specs.declared.PointInPolygonResult.{PointInPolygonResult}
use Rattle.polygons.specs.declared.PointInPolygonResult.TheVariants.{IsOn, IsInside, IsOutside}
use Rattle.polygons.specs.declared.Tour.{Tour}

-- ---- going round: whether the point was met, on which side of its level the path is (or last was), whether an odd number of crossings was passed
abbrev pub after : Tour → Way → Tour
after s Touches = record { on = true; above = s.above; odd = s.odd }
after s Stays = s
after s Passes = record { on = s.on; above = not s.above; odd = s.odd }
after s Crosses = record { on = s.on; above = not s.above; odd = not s.odd }

-- along the edge from p to q; once the point was met, that stays so
unfoldable pub along : Point → Tour → Point → Point → Tour
along pt s p q = cond s.on s (after s (way_of pt s.above p q))

-- along the edges from p through a list of vertices
abbrev pub walk : Point → Tour → Point → List Point → Tour
walk pt s p [] = s
walk pt s p (q ∷ qs) = walk pt (along pt s p q) q qs

-- at a vertex off the level
abbrev pub start : Point → Point → Tour
start pt v = record { on = false; above = is_above pt v; odd = false }

abbrev pub result_of : Tour → PointInPolygonResult
result_of s = cond s.on IsOn (cond s.odd IsInside IsOutside)

-- once round from v, where a list of vertices on the level came before it and others come after it: these, those, and back to v
abbrev pub round_from : Point → List Point → List Point → PointInPolygonResult
round_from pt before [] = IsOutside
round_from pt before (v ∷ rest) = result_of (walk pt (start pt v) v (rest ++ (before ++ (v ∷ []))))

-- how many vertices on the level a path begins with
abbrev pub levels : Point → List Point → ℕ
levels pt [] = 0
levels pt (q ∷ qs) = cond (is_level pt q) (suc (levels pt qs)) 0

-- `point_in_polygon`: fewer than three vertices, or all of them level, have no inside
unfoldable pub point_in_polygon : Point → List Point → PointInPolygonResult
point_in_polygon pt ps = cond (ltb (length ps) 3) IsOutside (round_from pt (take (levels pt ps) ps) (drop (levels pt ps) ps))
