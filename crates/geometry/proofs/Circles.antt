-- The doubled area of a circle of points: the same from every place, negated the other way round, changed by a triangle where a point goes, and its size.
-- Request 6 cites `area_turned` and `area_in_line`, request 10 `area_reversed`.
use mathlib.Core.Path.{◌≡◌, refl, sym, ap, ◌∙◌}
use mathlib.Core.Bool.{true}
use mathlib.Core.List.{List, [], ◌∷◌, ◌++◌, map, append-nil, reverse, reverse-cons}
use Prim.Native.Nat.{◌*◌, ◌≤◌, ◌^◌, zero-le}
use native.Mathlib.Omega.{arith}
use lib.ListN.{length}
use lib.IntN.{ℤ, pos, neg_ℤ, ◌+ℤ◌, +ℤ_idl, +ℤ_idr, +ℤ_comm, +ℤ_assoc, neg_ℤ-+ℤ}
use Rattle.exact.specs.Num.{Within}
use Rattle.exact.proofs.Size.{size_add, eq_z_true}
use Rattle.exact.proofs.Poly.{var, ◌:+◌, solve}
use Rattle.rings.specs.Circle.{turn, last_of}
use Rattle.geometry.specs.declared.Point.{Point}
use Rattle.geometry.specs.Plane.{ground, is_collinear, edge_area, area_triangle, area_from, area_outpt}
use Rattle.geometry.specs.Table.{InTable, AllInTable}
use Rattle.geometry.proofs.Coordinates.{edge_within}
use Rattle.geometry.proofs.Triangles.{edge, three, edge_back, triangle_in_line}

last_append : (p q : Point) (xs ys : List Point) → last_of p (xs ++ (q ∷ ys)) ≡ last_of q ys
last_append p q [] ys = refl
last_append p q (x ∷ xs) ys = last_append x q xs ys

-- along a list in two parts
pub area_append : (p : Point) (xs ys : List Point) → area_from p (xs ++ ys) ≡ area_from p xs +ℤ area_from (last_of p xs) ys
area_append p [] ys = sym (+ℤ_idl (area_from p ys))
area_append p (x ∷ xs) ys = ap (λ (z : ℤ). edge_area p x +ℤ z) (area_append x xs ys) ∙ sym (+ℤ_assoc (edge_area p x) (area_from x xs) (area_from (last_of x xs) ys))

-- the circle as a way from its first point round to it
pub area_round : (p : Point) (ps : List Point) → area_outpt (p ∷ ps) ≡ area_from p (ps ++ (p ∷ []))
unfolding area_outpt
area_round p ps =
    +ℤ_comm (edge_area (last_of p ps) p) (area_from p ps)
    ∙ ap (λ (z : ℤ). area_from p ps +ℤ z) (sym (+ℤ_idr (edge_area (last_of p ps) p)))
    ∙ sym (area_append p ps (p ∷ []))

-- from any place
pub area_rotated : (xs ys : List Point) → area_outpt (xs ++ ys) ≡ area_outpt (ys ++ xs)
unfolding area_outpt
area_rotated [] ys = ap area_outpt (sym (append-nil ys))
area_rotated (x ∷ xs) [] = ap (λ (l : List Point). area_outpt (x ∷ l)) (append-nil xs)
area_rotated (x ∷ xs) (y ∷ ys) =
    ap (λ (p : Point). area_from p (x ∷ xs ++ (y ∷ ys))) (last_append x y xs ys)
    ∙ area_append (last_of y ys) (x ∷ xs) (y ∷ ys)
    ∙ +ℤ_comm (area_from (last_of y ys) (x ∷ xs)) (area_from (last_of x xs) (y ∷ ys))
    ∙ sym (ap (λ (p : Point). area_from p (y ∷ ys ++ (x ∷ xs))) (last_append y x ys xs) ∙ area_append (last_of x xs) (y ∷ ys) (x ∷ xs))

pub area_turned : (c : List Point) → area_outpt (turn c) ≡ area_outpt c
area_turned [] = refl
area_turned (x ∷ xs) = area_rotated xs (x ∷ [])

-- ---- the other way round
back_way : (p q : Point) (xs : List Point) → area_from p (reverse xs ++ (q ∷ [])) ≡ neg_ℤ (area_from q (xs ++ (p ∷ [])))
back_way p q [] = ap (λ (z : ℤ). z +ℤ pos 0) (edge_back p q) ∙ +ℤ_idr (neg_ℤ (edge_area q p)) ∙ ap neg_ℤ (sym (+ℤ_idr (edge_area q p)))
back_way p q (x ∷ xs) =
    ap (λ (l : List Point). area_from p (l ++ (q ∷ []))) (reverse-cons x xs)
    ∙ area_append p (reverse xs ++ (x ∷ [])) (q ∷ [])
    ∙ rw (back_way p x xs, last_append p x (reverse xs) [], +ℤ_idr (edge_area x q), edge_back x q)
    (+ℤ_comm (neg_ℤ (area_from x (xs ++ (p ∷ [])))) (neg_ℤ (edge_area q x)) ∙ sym (neg_ℤ-+ℤ (edge_area q x) (area_from x (xs ++ (p ∷ [])))))

pub area_reversed : (c : List Point) → area_outpt (reverse c) ≡ neg_ℤ (area_outpt c)
unfolding area_outpt
area_reversed [] = refl
area_reversed (x ∷ xs) =
    ap area_outpt (reverse-cons x xs) ∙ area_rotated (reverse xs) (x ∷ []) ∙ area_round x (reverse xs) ∙ back_way x x xs ∙ ap neg_ℤ (sym (area_round x xs))

-- ---- z has no part in it
last_ground : (p : Point) (ps : List Point) → last_of (ground p) (map ground ps) ≡ ground (last_of p ps)
last_ground p [] = refl
last_ground p (q ∷ qs) = last_ground q qs

from_ground : (p : Point) (ps : List Point) → area_from (ground p) (map ground ps) ≡ area_from p ps
from_ground p [] = refl
from_ground p (q ∷ qs) = ap (λ (z : ℤ). edge_area p q +ℤ z) (from_ground q qs)

pub area_ground : (c : List Point) → area_outpt (map ground c) ≡ area_outpt c
unfolding area_outpt
area_ground [] = refl
area_ground (p ∷ ps) = ap (λ (q : Point). area_from q (map ground (p ∷ ps))) (last_ground p ps) ∙ from_ground (last_of p ps) (p ∷ ps)

-- ---- without a point: the area of its triangle less
pub area_dropped : (pt next : Point) (ps : List Point) → area_outpt (pt ∷ next ∷ ps) ≡ area_outpt (next ∷ ps) +ℤ area_triangle (last_of next ps) pt next
unfolding area_outpt area_triangle
area_dropped pt next ps =
    let l = last_of next ps in
    solve (l.x ∷ l.y ∷ pt.x ∷ pt.y ∷ next.x ∷ next.y ∷ area_from next ps ∷ [])
    (edge (var 0) (var 1) (var 2) (var 3) :+ (edge (var 2) (var 3) (var 4) (var 5) :+ var 6))
    ((edge (var 0) (var 1) (var 4) (var 5) :+ var 6) :+ three (var 0) (var 1) (var 2) (var 3) (var 4) (var 5)) refl

-- removing an in-line point leaves the area as it was
pub area_in_line : (pt next : Point) (ps : List Point) → is_collinear (last_of next ps) pt next ≡ true → area_outpt (pt ∷ next ∷ ps) ≡ area_outpt (next ∷ ps)
area_in_line pt next ps e =
    let z = eq_z_true (area_triangle (last_of next ps) pt next) (pos 0) (sym (triangle_in_line (last_of next ps) pt next) ∙ e) in
    area_dropped pt next ps ∙ ap (λ (y : ℤ). area_outpt (next ∷ ps) +ℤ y) z ∙ +ℤ_idr (area_outpt (next ∷ ps))

-- ---- the size: at most 2 ^ 42 for each edge
pub last_in_table : (p : Point) (ps : List Point) → InTable p → AllInTable ps → InTable (last_of p ps)
last_in_table p [] h t = h
last_in_table p (q ∷ ps) h t = last_in_table q ps t.0 t.1

pub area_from_within : (p : Point) (ps : List Point) → InTable p → AllInTable ps → Within (length ps * 2 ^ 42) (area_from p ps)
area_from_within p [] h t = record { size = zero-le }
area_from_within p (q ∷ ps) h t =
    let a = (edge_within h t.0).size in
    let b = (area_from_within q ps t.0 t.1).size in
    let c = size_add (edge_area p q) (area_from q ps) in
    record { size = omega arith }

pub area_within : (ps : List Point) → AllInTable ps → Within (length ps * 2 ^ 42) (area_outpt ps)
unfolding area_outpt
area_within [] t = record { size = zero-le }
area_within (p ∷ ps) t = area_from_within (last_of p ps) (p ∷ ps) (last_in_table p ps t.0 t.1) t

-- "ring sums within 2^53"
pub area_within_53 : (ps : List Point) → AllInTable ps → length ps ≤ 2048 → Within (2 ^ 53) (area_outpt ps)
area_within_53 ps t h = let a = (area_within ps t).size in record { size = omega arith }
