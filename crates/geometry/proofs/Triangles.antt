-- The doubled area of three points: as a cross product, rotated, reversed, in line, and its size.
use mathlib.Core.Path.{◌≡◌, refl, sym, ap, ◌∙◌}
use mathlib.Core.List.{[], ◌∷◌}
use Prim.Native.Nat.{◌*◌, ◌^◌}
use lib.IntN.{ℤ, pos, neg_ℤ, ◌-ℤ◌, ◌*ℤ◌, +ℤ_idl}
use Rattle.exact.specs.Num.{Within}
use Rattle.exact.specs.Equal.{eq_z}
use Rattle.exact.proofs.Words.{held_here, held_add}
use Rattle.exact.proofs.Linear.{eq_z_sub}
use Rattle.exact.proofs.Poly.{Term, var, num, ◌:+◌, ◌:-◌, ◌:*◌, solve}
use Rattle.geometry.specs.declared.Point.{Point}
use Rattle.geometry.specs.Plane.{is_collinear, edge_area, area_triangle}
use Rattle.geometry.specs.Table.{InTable}
use Rattle.geometry.proofs.Coordinates.{edge_within}

-- the terms of one edge and of a triangle, over the coordinates x, y of each point
abbrev pub edge : Term → Term → Term → Term → Term
edge px py qx qy = (py :+ qy) :* (px :- qx)

abbrev pub three : Term → Term → Term → Term → Term → Term → Term
three ax ay bx by cx cy = edge cx cy ax ay :+ edge ax ay bx by :+ edge bx by cx cy

pub minus_is : (z : ℤ) → pos 0 -ℤ z ≡ neg_ℤ z
minus_is z = +ℤ_idl (neg_ℤ z)

-- an edge the other way round
pub edge_back : (p q : Point) → edge_area p q ≡ neg_ℤ (edge_area q p)
edge_back p q =
    solve (p.x ∷ p.y ∷ q.x ∷ q.y ∷ []) (edge (var 0) (var 1) (var 2) (var 3)) (num (pos 0) :- edge (var 2) (var 3) (var 0) (var 1)) refl
    ∙ minus_is (edge_area q p)

module _ (a b c : Point) where
  -- the cross product form
  pub triangle_cross : area_triangle a b c ≡ (b.x -ℤ a.x) *ℤ (c.y -ℤ a.y) -ℤ (b.y -ℤ a.y) *ℤ (c.x -ℤ a.x)
  unfolding area_triangle
  triangle_cross =
      solve (a.x ∷ a.y ∷ b.x ∷ b.y ∷ c.x ∷ c.y ∷ []) (three (var 0) (var 1) (var 2) (var 3) (var 4) (var 5))
      ((var 2 :- var 0) :* (var 5 :- var 1) :- (var 3 :- var 1) :* (var 4 :- var 0)) refl

  -- from the next point on
  pub triangle_rotated : area_triangle b c a ≡ area_triangle a b c
  unfolding area_triangle
  triangle_rotated =
      solve (a.x ∷ a.y ∷ b.x ∷ b.y ∷ c.x ∷ c.y ∷ []) (three (var 2) (var 3) (var 4) (var 5) (var 0) (var 1)) (three (var 0) (var 1) (var 2) (var 3) (var 4) (var 5)) refl

  -- the other way round
  pub triangle_reversed : area_triangle c b a ≡ neg_ℤ (area_triangle a b c)
  unfolding area_triangle
  triangle_reversed =
      solve (a.x ∷ a.y ∷ b.x ∷ b.y ∷ c.x ∷ c.y ∷ []) (three (var 4) (var 5) (var 2) (var 3) (var 0) (var 1))
      (num (pos 0) :- three (var 0) (var 1) (var 2) (var 3) (var 4) (var 5)) refl
      ∙ minus_is (area_triangle a b c)

  -- in line exactly where the area is 0
  pub triangle_in_line : is_collinear a b c ≡ eq_z (area_triangle a b c) (pos 0)
  unfolding is_collinear area_triangle
  triangle_in_line =
      let x = (b.x -ℤ a.x) *ℤ (c.y -ℤ b.y) in
      let y = (b.y -ℤ a.y) *ℤ (c.x -ℤ b.x) in
      let e : x -ℤ y ≡ area_triangle a b c =
      solve (a.x ∷ a.y ∷ b.x ∷ b.y ∷ c.x ∷ c.y ∷ []) ((var 2 :- var 0) :* (var 5 :- var 3) :- (var 3 :- var 1) :* (var 4 :- var 2))
      (three (var 0) (var 1) (var 2) (var 3) (var 4) (var 5)) refl in
      sym (eq_z_sub x y) ∙ ap (λ (z : ℤ). eq_z z (pos 0)) e

module _ {a b c : Point} (A : InTable a) (B : InTable b) (C : InTable c) where
  pub triangle_within : Within (3 * 2 ^ 42) (area_triangle a b c)
  unfolding area_triangle
  triangle_within = (held_add (held_add (held_here (edge_within C A)) (held_here (edge_within A B))) (held_here (edge_within B C))).within
