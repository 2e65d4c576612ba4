-- How an edge goes, seen from a point: the crossing rule of `point_in_polygon` of core.rs for one edge, over whole numbers. A ray goes from the point to its left, along its level.
use Rattle.std.specs.Prelude.{Bool, cond, ℤ, pos}
use Rattle.std.specs.Bool.{beq}
use Rattle.std.specs.Int.Signed.{lt_z}
use Rattle.exact.specs.Equal.{eq_z}
use Rattle.geometry.specs.declared.Point.{Point}
use Rattle.geometry.specs.Plane.{cross_product_sign}
use Rattle.rays.specs.declared.Way.{Way}
use Rattle.rays.specs.declared.Way.TheVariants.{Touches, Stays, Passes, Crosses}

-- ---- a vertex, seen from the point
-- on its level
abbrev pub is_level : Point → Point → Bool
is_level pt q = eq_z q.y pt.y

-- off its level on the side that the Rust calls above
abbrev pub is_above : Point → Point → Bool
is_above pt q = lt_z q.y pt.y

-- ---- an edge from p to q, seen from the point: it touches it; or stays on its side, or ends on the level; or has gone over to the other side, past the point or with a crossing
-- p and q on the level: the point lies between them
abbrev pub between_way : Point → Point → Point → Way
between_way pt p q = cond (beq (lt_z pt.x p.x) (lt_z pt.x q.x)) Stays Touches

-- q on the level: the point is q, or the edge is level and the point is on it
unfoldable pub level_way : Point → Point → Point → Way
level_way pt p q = cond (eq_z q.x pt.x) Touches (cond (is_level pt p) (between_way pt p q) Stays)

-- q on the other side, by the sign of the cross product: 0 on the edge, else it says on which side of the edge the point is
unfoldable pub over_way : Bool → ℤ → Way
over_way above d = cond (eq_z d (pos 0)) Touches (cond (beq (lt_z d (pos 0)) above) Crosses Passes)

unfoldable pub way_of : Point → Bool → Point → Point → Way
way_of pt above p q = cond (is_level pt q) (level_way pt p q) (cond (beq (is_above pt q) above) Stays (over_way above (cross_product_sign p q pt)))
