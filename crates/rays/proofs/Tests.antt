-- The tests of points, as the code's words decide them.
use mathlib.Core.Path.{◌≡◌, refl, sym, ap, ◌∙◌}
use mathlib.Core.Bool.{Bool, true, false, cond, not, ◌&&◌, beq, false≢true}
use Prim.Native.Nat.{ℕ, ◌^◌, ◌≤◌}
use native.Mathlib.Omega.{arith}
use lib.IntN.{ℤ, pos, negsuc, nat_abs, ◌-ℤ◌, ◌*ℤ◌}
use lib.Signed.{lt_z}
use mir.Syntax.{w32, w64}
use mir.Val.{SFits, to_z, of_z}
use mir.Facts.{to_z-of_z}
use Rattle.exact.specs.Equal.{eq_z}
use Rattle.exact.proofs.Size.{eq_eq_z, ne_eq_z}
use Rattle.exact.proofs.Words.{i32}
use Rattle.geometry.proofs.Signs.{sign_back}
use Rattle.geometry.specs.declared.Point.{Point}
use Rattle.geometry.specs.Plane.{cross_product_sign}
use Rattle.rays.specs.declared.Way.{Way}
use Rattle.rays.specs.declared.Way.TheVariants.{Touches, Stays, Passes, Crosses}
use Rattle.rays.specs.Edge.{is_level, is_above, between_way, level_way, over_way, way_of}
use Rattle.rays.specs.Needs.{BeginsOn, GoesOver}
use Rattle.rays.proofs.Shortcuts.{over_right, over_left}

pub bool_yes : (a b : Bool) → a ≡ true → b ≡ beq a b
bool_yes a true e = rw e
bool_yes a false e = rw e

pub bool_no : (a b : Bool) → a ≡ false → not b ≡ beq a b
bool_no a true e = rw e
bool_no a false e = rw e

-- ---- an edge that goes over
module _ (above : Bool) (d : ℤ) (h : SFits w32 d) where
  pub over_touches : of_z w32 d ≡ 0 → Touches ≡ over_way above d
  unfolding over_way
  over_touches e = let z : d ≡ pos 0 = sym (to_z-of_z h) ∙ ap (to_z w32) e in rw (eq_eq_z d (pos 0) z)

  module _ (n : of_z w32 d ≡ 0 → ⊥) (r : Bool) (e : r ≡ beq (lt_z (i32 d) (pos 0)) above) where
    off : eq_z d (pos 0) ≡ false
    off = ne_eq_z d (pos 0) (λ z. n (ap (of_z w32) z))

    alike : beq (lt_z d (pos 0)) above ≡ r
    alike = sym (e ∙ ap (λ (z : ℤ). beq (lt_z z (pos 0)) above) (to_z-of_z h))

    pub over_crosses : r ≡ true → Crosses ≡ over_way above d
    unfolding over_way
    over_crosses f = rw (off, alike ∙ f)

    pub over_passes : r ≡ false → Passes ≡ over_way above d
    unfolding over_way
    over_passes f = rw (off, alike ∙ f)

-- by the cross product, in the end
pub over_signed : (pt p q : Point) (above : Bool) (d : ℤ) (w : Way) → d ≡ cross_product_sign p q pt → w ≡ over_way above (i32 d) → w ≡ over_way above (cross_product_sign p q pt)
over_signed pt p q above d w j k = k ∙ ap (λ (z : ℤ). over_way above (i32 z)) j ∙ ap (over_way above) (sign_back p q pt)

-- at both ends
and_true : (a b : Bool) → (a && b) ≡ true → (a ≡ true) × (b ≡ true)
and_true true true e = (refl, refl)
and_true true false e = (refl, e)
and_true false b e = absurd (false≢true e)

module _ (pt p q : Point) (above : Bool) (o : GoesOver pt above p q) (u v : Bool) where
  pub over_passed : u ≡ lt_z pt.x p.x → v ≡ lt_z pt.x q.x → (u && v) ≡ true → Passes ≡ over_way above (cross_product_sign p q pt)
  over_passed e f h = let k = and_true u v h in over_right pt p q above o (sym e ∙ k.0) (sym f ∙ k.1)

  pub over_crossed : u ≡ lt_z p.x pt.x → v ≡ lt_z q.x pt.x → (u && v) ≡ true → Crosses ≡ over_way above (cross_product_sign p q pt)
  over_crossed e f h = let k = and_true u v h in over_left pt p q above o (sym e ∙ k.0) (sym f ∙ k.1)

-- ---- an edge that ends on the level
module _ (pt p q : Point) where
  module _ (u v r : Bool) (f : u ≡ lt_z pt.x p.x) (g : v ≡ lt_z pt.x q.x) (e : r ≡ beq u v) where
    pub between_not : r ≡ true → Stays ≡ between_way pt p q
    between_not h = rw (sym f, sym g, sym e, h)

    pub between_is : r ≡ false → Touches ≡ between_way pt p q
    between_is h = rw (sym f, sym g, sym e, h)

  module _ (here : Bool) (e : here ≡ eq_z q.x pt.x) where
    pub level_here : here ≡ true → Touches ≡ level_way pt p q
    unfolding level_way
    level_here h = rw (sym e ∙ h)

    module _ (h : here ≡ false) (level : Bool) (f : level ≡ is_level pt p) where
      pub level_along : level ≡ true → (w : Way) → w ≡ between_way pt p q → w ≡ level_way pt p q
      unfolding level_way
      level_along g w i = i ∙ rw (sym e ∙ h, sym f ∙ g)

      pub level_stays : level ≡ false → Stays ≡ level_way pt p q
      unfolding level_way
      level_stays g = rw (sym e ∙ h, sym f ∙ g)

-- ---- any edge
module _ (pt : Point) (above : Bool) (p q : Point) (level : Bool) (e : level ≡ is_level pt q) where
  pub way_level : level ≡ true → (w : Way) → w ≡ level_way pt p q → w ≡ way_of pt above p q
  unfolding way_of
  way_level h w f = f ∙ rw (sym e ∙ h)

  module _ (h : level ≡ false) (side alike : Bool) (f : side ≡ is_above pt q) (g : alike ≡ beq side above) where
    same_side : beq (is_above pt q) above ≡ alike
    same_side = ap (λ (b : Bool). beq b above) (sym f) ∙ sym g

    pub way_stays : alike ≡ true → Stays ≡ way_of pt above p q
    unfolding way_of
    way_stays i = rw (sym e ∙ h, same_side ∙ i)

    pub way_over : alike ≡ false → (w : Way) → w ≡ over_way above (cross_product_sign p q pt) → w ≡ way_of pt above p q
    unfolding way_of
    way_over i w k = k ∙ rw (sym e ∙ h, same_side ∙ i)

    pub may_go_over : alike ≡ false → BeginsOn pt above p → GoesOver pt above p q
    may_go_over i k = record { from = k; off = sym e ∙ h; other = same_side ∙ i }
