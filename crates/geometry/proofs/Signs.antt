-- The sign of a cross product, as the code's words hold it.
use mathlib.Core.Path.{◌≡◌, ap, ◌∙◌}
use mathlib.Core.Bool.{Bool, true, false, cond}
use native.Mathlib.Omega.{arith}
use lib.IntN.{ℤ, pos, negsuc, ◌-ℤ◌, ◌*ℤ◌}
use lib.Signed.{lt_z}
use mir.Syntax.{w64}
use mir.Val.{SFits}
use mir.Facts.{to_z-of_z}
use Rattle.exact.specs.Num.{Within}
use Rattle.exact.proofs.Words.{i32, i64, held_64, back_32}
use Rattle.geometry.specs.declared.Point.{Point}
use Rattle.geometry.specs.Plane.{sign_of, cross_product_sign}
use Rattle.geometry.specs.Table.{InTable}
use Rattle.geometry.proofs.Coordinates.{product_of}

module _ {a b : ℤ} (h : SFits w64 a) (k : SFits w64 b) where
  pub sign_more : lt_z (i64 b) (i64 a) ≡ true → pos 1 ≡ sign_of a b
  sign_more e = rw (rw (to_z-of_z h, to_z-of_z k) at e)

  pub sign_less : lt_z (i64 b) (i64 a) ≡ false → lt_z (i64 a) (i64 b) ≡ true → negsuc 0 ≡ sign_of a b
  sign_less e f = rw (rw (to_z-of_z h, to_z-of_z k) at e, rw (to_z-of_z h, to_z-of_z k) at f)

  pub sign_none : lt_z (i64 b) (i64 a) ≡ false → lt_z (i64 a) (i64 b) ≡ false → pos 0 ≡ sign_of a b
  sign_none e f = rw (rw (to_z-of_z h, to_z-of_z k) at e, rw (to_z-of_z h, to_z-of_z k) at f)

sign_small : (a b : ℤ) → Within 1 (sign_of a b)
sign_small a b = go (lt_z b a) (lt_z a b)
  where
    go : (t u : Bool) → Within 1 (cond t (pos 1) (cond u (negsuc 0) (pos 0)))
    go true u = record { size = omega arith }
    go false true = record { size = omega arith }
    go false false = record { size = omega arith }

cross_small : (a b c : Point) → Within 1 (cross_product_sign a b c)
unfolding cross_product_sign
cross_small a b c = sign_small ((b.x -ℤ a.x) *ℤ (c.y -ℤ b.y)) ((b.y -ℤ a.y) *ℤ (c.x -ℤ b.x))

-- a sign that is passed on
pub sign_back : (a b c : Point) → i32 (cross_product_sign a b c) ≡ cross_product_sign a b c
sign_back a b c = back_32 (cross_small a b c) tt

-- the sign from the answers of `product` and `sign_of`
pub cross_of : {a b c : Point} {x y r : ℤ} → InTable a → InTable b → InTable c
    → x ≡ (i32 b.x -ℤ i32 a.x) *ℤ (i32 c.y -ℤ i32 b.y) → y ≡ (i32 b.y -ℤ i32 a.y) *ℤ (i32 c.x -ℤ i32 b.x) → r ≡ sign_of (i64 x) (i64 y)
    → i32 r ≡ cross_product_sign a b c
unfolding cross_product_sign
cross_of {a} {b} {c} {x} {y} {r} A B C e f g =
    let p = held_64 (product_of B.x A.x C.y B.y e) tt in
    let q = held_64 (product_of B.y A.y C.x B.x f) tt in
    let d : r ≡ cross_product_sign a b c = g ∙ rw (p.is, q.is) in ap i32 d ∙ sign_back a b c
