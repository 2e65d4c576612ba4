-- Points of the plane and the tests on them, over whole numbers: document 01, "Point"; core.rs, engine_fns.rs and `clean_collinear` of the Rust.
use Rattle.std.specs.Prelude.{Bool, false, cond, not, ◌&&◌, ◌||◌, List, [], ◌∷◌, ltb, ℤ, pos, negsuc, nat_abs, ◌+ℤ◌, ◌-ℤ◌, ◌*ℤ◌}
use Rattle.std.specs.Int.Signed.{lt_z}
use Rattle.exact.specs.Equal.{eq_z}
use Rattle.rings.specs.Circle.{last_of}
use Rattle.geometry.specs.declared.Point.{Point}

-- the point's place: what is left of it without its depth
abbrev pub ground : Point → Point
ground p = record { x = p.x; y = p.y; z = 0 }

-- equality of points, `==` of the Rust: "Equality of points ignores z"
unfoldable pub same_point : Point → Point → Bool
same_point p q = eq_z p.x q.x && eq_z p.y q.y

-- `is_collinear`: the two products are equal
unfoldable pub is_collinear : Point → Point → Point → Bool
is_collinear pt1 shared pt2 = eq_z ((shared.x -ℤ pt1.x) *ℤ (pt2.y -ℤ shared.y)) ((shared.y -ℤ pt1.y) *ℤ (pt2.x -ℤ shared.x))

-- `cross_product_sign`: 1, -1 or 0, as the first product is the greater, the less, or they are equal
abbrev pub sign_of : ℤ → ℤ → ℤ
sign_of ab cd = cond (lt_z cd ab) (pos 1) (cond (lt_z ab cd) (negsuc 0) (pos 0))

unfoldable pub cross_product_sign : Point → Point → Point → ℤ
cross_product_sign pt1 pt2 pt3 = sign_of ((pt2.x -ℤ pt1.x) *ℤ (pt3.y -ℤ pt2.y)) ((pt2.y -ℤ pt1.y) *ℤ (pt3.x -ℤ pt2.x))

-- `dot_product_three_points`: the edge to pt2 times the edge from it
unfoldable pub dot_product_three_points : Point → Point → Point → ℤ
dot_product_three_points pt1 pt2 pt3 = (pt2.x -ℤ pt1.x) *ℤ (pt3.x -ℤ pt2.x) +ℤ (pt2.y -ℤ pt1.y) *ℤ (pt3.y -ℤ pt2.y)

-- one edge's part in a doubled area: "(prev y + y) × (prev x − x)"
abbrev pub edge_area : Point → Point → ℤ
edge_area prev pt = (prev.y +ℤ pt.y) *ℤ (prev.x -ℤ pt.x)

-- `area_triangle`: the doubled area, positive where the points turn as a piece's do
unfoldable pub area_triangle : Point → Point → Point → ℤ
area_triangle pt1 pt2 pt3 = edge_area pt3 pt1 +ℤ edge_area pt1 pt2 +ℤ edge_area pt2 pt3

-- the edges along a list, the first of them from prev
abbrev pub area_from : Point → List Point → ℤ
area_from prev [] = pos 0
area_from prev (pt ∷ pts) = edge_area prev pt +ℤ area_from pt pts

-- `area_outpt` before its last halving, and the listing's doubled area: the circle of points, from any place, in walk order
unfoldable pub area_outpt : List Point → ℤ
area_outpt [] = pos 0
area_outpt (pt ∷ pts) = area_from (last_of pt pts) (pt ∷ pts)

-- a and b differ by under 2
abbrev pub close_by : ℤ → ℤ → Bool
close_by a b = ltb (nat_abs (a -ℤ b)) 2

-- `pts_really_close`: "differ by under 2 in both x and y"
unfoldable pub pts_really_close : Point → Point → Bool
pts_really_close pt1 pt2 = close_by pt1.x pt2.x && close_by pt1.y pt2.y

-- `is_very_small_triangle` of three points, of which pt is the one that it is asked of
unfoldable pub is_very_small_triangle : Point → Point → Point → Bool
is_very_small_triangle prev pt next = pts_really_close prev next || pts_really_close pt next || pts_really_close pt prev

-- the removal test of `clean_collinear`, first `preserve_collinear`
unfoldable pub removable : Bool → Point → Point → Point → Bool
removable preserve prev pt next =
    is_collinear prev pt next && (same_point pt prev || same_point pt next || not preserve || lt_z (dot_product_three_points prev pt next) (pos 0))

-- ---- two edges: the first from a to b, the second from c to d
-- `cp`, and `det` of `get_segment_intersect_pt`: the cross product of the two edges
abbrev pub divisor : Point → Point → Point → Point → ℤ
divisor a b c d = (b.y -ℤ a.y) *ℤ (d.x -ℤ c.x) -ℤ (d.y -ℤ c.y) *ℤ (b.x -ℤ a.x)

-- the first `t`: over the divisor, the fraction of the first edge at which the second's line meets it
abbrev pub along_first : Point → Point → Point → Point → ℤ
along_first a b c d = (a.x -ℤ c.x) *ℤ (d.y -ℤ c.y) -ℤ (a.y -ℤ c.y) *ℤ (d.x -ℤ c.x)

-- the second `t`: the same of the second edge
abbrev pub along_second : Point → Point → Point → Point → ℤ
along_second a b c d = (a.x -ℤ c.x) *ℤ (b.y -ℤ a.y) -ℤ (a.y -ℤ c.y) *ℤ (b.x -ℤ a.x)

-- t lies strictly between 0 and cp
unfoldable pub strictly_within : ℤ → ℤ → Bool
strictly_within t cp = cond (lt_z (pos 0) t) (lt_z t cp) (cond (lt_z t (pos 0)) (lt_z cp t) false)

-- `segments_intersect` of core.rs, not inclusive: the edges cross at an inner point of both
unfoldable pub segments_intersect : Point → Point → Point → Point → Bool
segments_intersect a b c d =
    not (eq_z (divisor a b c d) (pos 0)) && (strictly_within (along_first a b c d) (divisor a b c d) && strictly_within (along_second a b c d) (divisor a b c d))
