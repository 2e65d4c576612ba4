-- Sums, differences and products of coordinates, as the code's words hold them; the test of closeness.
use mathlib.Core.Path.{◌≡◌}
use mathlib.Core.Bool.{Bool, not, ◌&&◌, ◌||◌}
use Prim.Native.Nat.{◌^◌}
use lib.Dec.{eqb}
use lib.IntN.{ℤ, pos, ◌+ℤ◌, ◌-ℤ◌, ◌*ℤ◌}
use lib.Signed.{lt_z}
use mir.Syntax.{w32}
use mir.Val.{SFits, of_z}
use mir.Facts.{to_z-of_z}
use Rattle.exact.specs.Num.{Within}
use Rattle.exact.proofs.Words.{bits_eq_z, i32, i64, Held, held_here, held_is, held_32, held_64, held_add, held_sub, held_mul}
use Rattle.geometry.specs.declared.Point.{Point}
use Rattle.geometry.specs.Plane.{same_point, is_collinear, dot_product_three_points, edge_area, close_by, pts_really_close, removable}
use Rattle.geometry.specs.Table.{InTable}

-- a coordinate that is passed on
pub coordinate : {z : ℤ} → Within (2 ^ 20) z → Held (i32 z) z (2 ^ 20)
coordinate h = held_32 (held_here h) tt

-- the sum, the difference and the product that `product` and `edge_area` make
module _ {a b : ℤ} (h : Within (2 ^ 20) a) (k : Within (2 ^ 20) b) where
  wide_add : Held (i64 (i32 a) +ℤ i64 (i32 b)) (a +ℤ b) (2 ^ 21)
  wide_add = held_add (held_64 (coordinate h) tt) (held_64 (coordinate k) tt)

  wide_sub : Held (i64 (i32 a) -ℤ i64 (i32 b)) (a -ℤ b) (2 ^ 21)
  wide_sub = held_sub (held_64 (coordinate h) tt) (held_64 (coordinate k) tt)

pub wide_mul :
    {a b c d : ℤ} → Within (2 ^ 20) a → Within (2 ^ 20) b → Within (2 ^ 20) c → Within (2 ^ 20) d
    → Held (i64 (i64 (i32 a) -ℤ i64 (i32 b)) *ℤ i64 (i64 (i32 c) -ℤ i64 (i32 d))) ((a -ℤ b) *ℤ (c -ℤ d)) (2 ^ 42)
wide_mul h k l m = held_mul (held_64 (wide_sub h k) tt) (held_64 (wide_sub l m) tt)

pub wide_edge :
    {p q : Point} → InTable p → InTable q
    → Held (i64 (i64 (i32 p.y) +ℤ i64 (i32 q.y)) *ℤ i64 (i64 (i32 p.x) -ℤ i64 (i32 q.x))) (edge_area p q) (2 ^ 42)
wide_edge h k = held_mul (held_64 (wide_add h.y k.y) tt) (held_64 (wide_sub h.x k.x) tt)

-- the answer of `product`
pub product_of :
    {a b c d r : ℤ} → Within (2 ^ 20) a → Within (2 ^ 20) b → Within (2 ^ 20) c → Within (2 ^ 20) d → r ≡ (i32 a -ℤ i32 b) *ℤ (i32 c -ℤ i32 d) → Held r ((a -ℤ b) *ℤ (c -ℤ d)) (2 ^ 42)
product_of h k l m e = held_is e (held_mul (held_sub (coordinate h) (coordinate k)) (held_sub (coordinate l) (coordinate m)))

times_of : {a b c d : ℤ} → Within (2 ^ 20) a → Within (2 ^ 20) b → Within (2 ^ 20) c → Within (2 ^ 20) d → Held ((a -ℤ b) *ℤ (c -ℤ d)) ((a -ℤ b) *ℤ (c -ℤ d)) (2 ^ 42)
times_of h k l m = held_mul (held_sub (held_here h) (held_here k)) (held_sub (held_here l) (held_here m))

-- ---- one edge's part in a doubled area
pub edge_within : {p q : Point} → InTable p → InTable q → Within (2 ^ 42) (edge_area p q)
edge_within h k = (held_mul (held_add (held_here h.y) (held_here k.y)) (held_sub (held_here h.x) (held_here k.x))).within

-- the answer of `edge_area`
pub edge_of : {p q : Point} {r : ℤ} → InTable p → InTable q → r ≡ edge_area p q → Held r (edge_area p q) (2 ^ 42)
edge_of h k e = held_is e (held_here (edge_within h k))

-- ---- equality of points, by the bits
pub same_of :
    (p q : Point) → SFits w32 p.x → SFits w32 q.x → SFits w32 p.y → SFits w32 q.y →
    (eqb (of_z w32 p.x) (of_z w32 q.x) && eqb (of_z w32 p.y) (of_z w32 q.y)) ≡ same_point p q
unfolding same_point
same_of p q h k l m = rw (bits_eq_z w32 p.x q.x h k, bits_eq_z w32 p.y q.y l m)

-- ---- closeness
-- the answers of `close` on both coordinates
pub both_close :
    (p q : Point) {r s : Bool} →
    SFits w32 p.x → SFits w32 q.x → SFits w32 p.y → SFits w32 q.y →
    r ≡ close_by (i32 p.x) (i32 q.x) → s ≡ close_by (i32 p.y) (i32 q.y) → (r && s) ≡ pts_really_close p q
unfolding pts_really_close
both_close p q h k l m e f = rw (e, f, to_z-of_z h, to_z-of_z k, to_z-of_z l, to_z-of_z m)

-- ---- the removal test, from the answers of its parts
pub removable_of :
    (keep : Bool) {prev pt next : Point} {line back on : Bool} {dot : ℤ} →
    InTable prev → InTable pt → InTable next →
    line ≡ is_collinear prev pt next → back ≡ same_point pt prev → on ≡ same_point pt next → dot ≡ dot_product_three_points prev pt next →
    (line && (((back || on) || not keep) || lt_z (i64 dot) (pos 0))) ≡ removable keep prev pt next
unfolding removable dot_product_three_points
removable_of keep A B C e f g h =
    let d = held_64 (held_is h (held_add (times_of B.x A.x C.x B.x) (times_of B.y A.y C.y B.y))) tt in
    rw (e, f, g, d.is)
