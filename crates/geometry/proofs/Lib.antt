-- Laws of the definitions; the functions' own proofs stand in folders of their own.
-- Points: `same_true`, `true_same`, `same_refl`, `same_false`, `same_differ`, `same_as`: `same_point` decides whether two points are at one place, and is an equivalence.
-- Triangles: `triangle_cross`, `triangle_rotated`, `triangle_reversed`, `triangle_in_line` (0 exactly where in line), `triangle_within` (at most 3·2^42).
-- Circles: `area_append`, `area_round`, `area_rotated`, `area_turned`, `area_reversed`; `area_dropped`, `area_in_line` (without an in-line point it stays); `area_from_within`, `area_within`, `area_within_53`. Coordinates: `edge_within` (one edge's part is at most 2^42).
-- Apart: `crossing_apart`, the points of a crossing are at four places.
pub mod Coordinates
pub mod Signs
pub mod Triangles
pub mod Circles
pub mod Points
pub mod Apart
