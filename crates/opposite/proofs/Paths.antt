-- A ring's path forward and its path reversed: both are there or neither, the same places in exactly opposite order, and of neighbours at one place each path has the first that it walks. The plane, where a point's key is its place.
use mathlib.Core.Path.{◌≡◌, refl, sym, ap, ◌∙◌, subst}
use mathlib.Core.Bool.{Bool, true, false, not, ◌||◌}
use mathlib.Core.List.{List, [], ◌∷◌, ◌++◌, reverse}
use mathlib.Core.Option.{Option, some}
use Prim.Native.Nat.{ℕ}
use lib.Dec.{ltb}
use lib.IntN.{ℤ, pos, nat_abs, neg_ℤ, ◌-ℤ◌, +ℤ_idl}
use Rattle.exact.proofs.Size.{size_neg}
use Rattle.exact.proofs.Poly.{var, num, ◌:-◌, solve}
use Rattle.geometry.specs.declared.Point.{Point}
use Rattle.geometry.specs.Plane.{ground, close_by, pts_really_close, is_very_small_triangle}
use Rattle.geometry.proofs.Points.{same_true, true_same}
use Rattle.rings.specs.Circle.{turn, omap}
use Rattle.lone.specs.Path.{in_order, without_equals, is_small_ring, build_path64_from_outpt}
use Rattle.lone.specs.Plane.{plane}
use Rattle.opposite.specs.Opposite.{on_ground}
use Rattle.opposite.specs.Turned.{Turned, TurnedOr}
use Rattle.opposite.specs.Turned as walk
use Rattle.opposite.proofs.Keyed.{order_other, Alike, neither, each, paths_alike}
use Rattle.opposite.proofs.Clusters.{walk_turned}

-- ---- close by is the same of either

close_back : (a b : ℤ) → close_by a b ≡ close_by b a
close_back a b = ap (λ (n : ℕ). ltb n 2) (ap nat_abs (solve (a ∷ b ∷ []) (var 0 :- var 1) (num (pos 0) :- (var 1 :- var 0)) refl ∙ +ℤ_idl (neg_ℤ (b -ℤ a))) ∙ size_neg (b -ℤ a))

close_swapped : (a b : Point) → pts_really_close a b ≡ pts_really_close b a
unfolding pts_really_close
close_swapped a b = rw (close_back a.x b.x, close_back a.y b.y)

module _ (p : Bool) where
  -- ---- the small test is the same

  pub small_turned : (c : List Point) → is_small_ring (plane p) c ≡ is_small_ring (plane p) (turn c)
  unfolding is_very_small_triangle
  small_turned [] = refl
  small_turned (a ∷ []) = refl
  small_turned (a ∷ b ∷ []) = refl
  small_turned (a ∷ b ∷ c ∷ []) = rw (close_swapped c b, close_swapped a b, close_swapped a c) (go (pts_really_close b c) (pts_really_close b a) (pts_really_close c a))
    where
      go : (x y z : Bool) → (x || y || z) ≡ (z || x || y)
      go true true true = refl
      go true true false = refl
      go true false true = refl
      go true false false = refl
      go false true true = refl
      go false true false = refl
      go false false true = refl
      go false false false = refl
  small_turned (a ∷ b ∷ c ∷ d ∷ r) = longer r
    where
      longer : (r : List Point) → false ≡ is_small_ring (plane p) (b ∷ c ∷ d ∷ (r ++ (a ∷ [])))
      longer [] = refl
      longer (e ∷ r) = refl

  -- ---- the path

  -- walked one way and the other
  pub both_ways : (rev is_open : Bool) (c : List Point) → TurnedOr (in_order rev c) (build_path64_from_outpt (plane p) rev is_open c) (build_path64_from_outpt (plane p) (not rev) is_open c)
  both_ways rev is_open c = go _ _ (paths_alike (plane p) ground same_true true_same small_turned rev is_open c)
    where
      go : (x y : Option (List Point)) → Alike (plane p) ground same_true true_same (without_equals (plane p) (in_order rev c)) (without_equals (plane p) (in_order (not rev) c)) x y → TurnedOr (in_order rev c) x y
      go x y neither = walk.neither
      go x y each = walk.both (subst (λ (l : List Point). Turned (in_order rev c) (without_equals (plane p) (in_order rev c)) (without_equals (plane p) l)) (sym (order_other rev c)) (walk_turned p (in_order rev c)))

  -- in x and y
  pub path_either : (rev is_open : Bool) (c : List Point) → omap on_ground (build_path64_from_outpt (plane p) (not rev) is_open c) ≡ omap reverse (omap on_ground (build_path64_from_outpt (plane p) rev is_open c))
  path_either rev is_open c = on_ground_lem (in_order rev c) (build_path64_from_outpt (plane p) rev is_open c) (build_path64_from_outpt (plane p) (not rev) is_open c) (both_ways rev is_open c)
    where
      on_ground_lem : (l : List Point) (x y : Option (List Point)) → TurnedOr l x y → omap on_ground y ≡ omap reverse (omap on_ground x)
      on_ground_lem l x y walk.neither = refl
      on_ground_lem l x y (walk.both t) = ap some t.places

  -- forward, and reversed
  pub path_turned : (is_open : Bool) (c : List Point) → omap on_ground (build_path64_from_outpt (plane p) true is_open c) ≡ omap reverse (omap on_ground (build_path64_from_outpt (plane p) false is_open c))
  path_turned is_open c = path_either false is_open c
