-- `point_in_polygon` edge by edge as core.rs writes it, for comparing with the Rust: two shortcuts stand before the cross product, and the last edge, back to the first vertex off the
-- level, is looked at only where the side has changed, and then by the cross product alone. `as_written` (proofs/Written.antt): it is the rule of Polygon.
use Rattle.std.specs.Prelude.{ℕ, Bool, cond, ◌&&◌, List, [], ◌∷◌, ◌++◌, ltb, length, take, drop}
use Rattle.std.specs.Bool.{beq}
use Rattle.std.specs.Int.Signed.{lt_z}
use Rattle.rings.specs.Circle.{last_of}
use Rattle.geometry.specs.declared.Point.{Point}
use Rattle.polygons.specs.declared.PointInPolygonResult.{PointInPolygonResult}
use Rattle.polygons.specs.declared.PointInPolygonResult.TheVariants.{IsOutside}
use Rattle.rays.specs.declared.Way.{Way}
use Rattle.rays.specs.declared.Way.TheVariants.{Stays, Passes, Crosses}
use Rattle.polygons.specs.declared.Tour.{Tour}
use Rattle.geometry.specs.Plane.{cross_product_sign}
use Rattle.rays.specs.Edge.{is_level, is_above, level_way, over_way}
use Rattle.polygons.specs.Polygon.{after, start, result_of, levels}

-- `if pt.x < curr.x && pt.x < prev.x {} else if pt.x > prev.x && pt.x > curr.x { val = 1 - val } else { .. cross_product_sign .. }`
unfoldable pub over_as_written : Point → Bool → Point → Point → Way
over_as_written pt above prev curr =
    cond (lt_z pt.x curr.x && lt_z pt.x prev.x) Passes
    (cond (lt_z prev.x pt.x && lt_z curr.x pt.x) Crosses
    (over_way above (cross_product_sign prev curr pt)))

unfoldable pub along_as_written : Point → Tour → Point → Point → Tour
along_as_written pt s prev curr =
    cond s.on s
    (after s (cond (is_level pt curr) (level_way pt prev curr) (cond (beq (is_above pt curr) s.above) Stays (over_as_written pt s.above prev curr))))

abbrev pub walk_as_written : Point → Tour → Point → List Point → Tour
walk_as_written pt s p [] = s
walk_as_written pt s p (q ∷ qs) = walk_as_written pt (along_as_written pt s p q) q qs

-- `if is_above != starting_above { .. }`
unfoldable pub close_as_written : Point → Tour → Point → Point → Tour
close_as_written pt s prev v = cond s.on s (cond (beq (is_above pt v) s.above) s (after s (over_way s.above (cross_product_sign prev v pt))))

abbrev pub round_as_written : Point → List Point → List Point → PointInPolygonResult
round_as_written pt before [] = IsOutside
round_as_written pt before (v ∷ rest) = result_of (close_as_written pt (walk_as_written pt (start pt v) v (rest ++ before)) (last_of v (rest ++ before)) v)

unfoldable pub point_in_polygon_as_written : Point → List Point → PointInPolygonResult
point_in_polygon_as_written pt ps = cond (ltb (length ps) 3) IsOutside (round_as_written pt (take (levels pt ps) ps) (drop (levels pt ps) ps))
