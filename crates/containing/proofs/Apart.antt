-- A point outside a box is outside every path within it, so a path that begins with two such points is not contained.
use Prim.Native.Nat.{ℕ, zero, suc, ◌+◌, ◌-◌, ◌≤◌, ◌<◌}
use mathlib.Core.Path.{◌≡◌, refl, sym, ap, ◌∙◌}
use mathlib.Core.Bool.{Bool, true, false, ◌&&◌, ◌||◌, false≢true}
use mathlib.Core.List.{List, [], ◌∷◌}
use native.Mathlib.Omega.{arith}
use lib.IntN.{ℤ}
use lib.Signed.{lt_z}
use Rattle.geometry.specs.declared.Point.{Point}
use Rattle.geometry.specs.declared.Rect.{Rect}
use Rattle.rays.proofs.Shortcuts.{lt_parts, ge_parts}
use Rattle.polygons.specs.declared.PointInPolygonResult.TheVariants.{IsOutside}
use Rattle.polygons.specs.Polygon.{point_in_polygon}
use Rattle.polygons.proofs.Beside.{All, Right, Left, Beside, not_equal, not_equal_back, not_more, beside_outside, right_outside, left_outside}
use Rattle.listing.specs.Fields.{point_in, points_in}
use Rattle.listing.specs.Needs.{Held, Run}
use Rattle.listing.proofs.Runs.{run_head, run_rest}
use Rattle.paths.specs.Tray.{POINT}
use Rattle.polygons.proofs.Going.{points_next}
use Rattle.containing.specs.Outside.{outside, begins_outside, AllEnclosed}
use Rattle.containing.specs.Contains.{path2_contains_path1}

beyond : (a b c : ℤ) → lt_z a b ≡ true → lt_z c b ≡ false → lt_z a c ≡ true
beyond a b c h k = go (lt_z a c) refl
  where
    go : (t : Bool) → lt_z a c ≡ t → lt_z a c ≡ true
    go true e = e
    go false e = let x = lt_parts a b h in let y = ge_parts c b k in let z = ge_parts a c e in absurd (omega arith)

before : (a b c : ℤ) → lt_z b a ≡ true → lt_z b c ≡ false → lt_z c a ≡ true
before a b c h k = go (lt_z c a) refl
  where
    go : (t : Bool) → lt_z c a ≡ t → lt_z c a ≡ true
    go true e = e
    go false e = let x = lt_parts b a h in let y = ge_parts b c k in let z = ge_parts c a e in absurd (omega arith)

-- ---- outside a box
module _ (b : Rect) (pt : Point) where
  all_right : (ps : List Point) → AllEnclosed b ps → lt_z pt.x b.left ≡ true → All (Right pt) ps
  all_right [] h e = tt
  all_right (q ∷ qs) h e = (beyond pt.x b.left q.x e h.0.left, all_right qs h.1 e)

  all_left : (ps : List Point) → AllEnclosed b ps → lt_z b.right pt.x ≡ true → All (Left pt) ps
  all_left [] h e = tt
  all_left (q ∷ qs) h e = (before pt.x b.right q.x e h.0.right, all_left qs h.1 e)

  all_under : (ps : List Point) → AllEnclosed b ps → lt_z pt.y b.top ≡ true → All (Beside pt false) ps
  all_under [] h e = tt
  all_under (q ∷ qs) h e =
      let k = beyond pt.y b.top q.y e h.0.top in (record { off = not_equal pt.y q.y k; side = not_more pt.y q.y k }, all_under qs h.1 e)

  all_over : (ps : List Point) → AllEnclosed b ps → lt_z b.bottom pt.y ≡ true → All (Beside pt true) ps
  all_over [] h e = tt
  all_over (q ∷ qs) h e =
      let k = before pt.y b.bottom q.y e h.0.bottom in (record { off = not_equal_back q.y pt.y k; side = k }, all_over qs h.1 e)

  pub outside_all : (ps : List Point) → AllEnclosed b ps → outside b pt ≡ true → point_in_polygon pt ps ≡ IsOutside
  outside_all ps h e = go (lt_z pt.x b.left) (lt_z b.right pt.x) (lt_z pt.y b.top) (lt_z b.bottom pt.y) refl refl refl refl e
    where
      go : (l r u d : Bool) → lt_z pt.x b.left ≡ l → lt_z b.right pt.x ≡ r → lt_z pt.y b.top ≡ u → lt_z b.bottom pt.y ≡ d → (l || r || u || d) ≡ true → point_in_polygon pt ps ≡ IsOutside
      go true r u d i j m n x = right_outside pt ps (all_right ps h i)
      go false true u d i j m n x = left_outside pt ps (all_left ps h j)
      go false false true d i j m n x = beside_outside pt ps false (all_under ps h m)
      go false false false true i j m n x = beside_outside pt ps true (all_over ps h n)
      go false false false false i j m n x = absurd (false≢true x)

and_both : (a b : Bool) → (a && b) ≡ true → (a ≡ true) × (b ≡ true)
and_both true true e = (refl, refl)
and_both true false e = (refl, e)
and_both false b e = absurd (false≢true e)

pub outside_not_contained : (b : Rect) (path1 path2 : List Point) → AllEnclosed b path2 → begins_outside b path1 ≡ true → path2_contains_path1 path1 path2 ≡ false
unfolding path2_contains_path1
outside_not_contained b [] path2 h e = absurd (false≢true e)
outside_not_contained b (p ∷ []) path2 h e = absurd (false≢true e)
outside_not_contained b (p ∷ q ∷ ps) path2 h e =
    let k = and_both (outside b p) (outside b q) e in rw (outside_all b p path2 h k.0, outside_all b q path2 h k.1)

-- ---- the path's first two points, in a tray
module _ (t : List ℕ) (n from : ℕ) (b : Rect) where
  pub begins_few : n < 2 → false ≡ begins_outside b (points_in t n from)
  begins_few h = go n h
    where
      go : (m : ℕ) → m < 2 → false ≡ begins_outside b (points_in t m from)
      go zero k = refl
      go (suc zero) k = refl
      go (suc (suc m)) k = absurd (omega arith)

  module _ (r : Run t n from) (h : 2 ≤ n) where
    pub begins_first : Held t from
    begins_first = run_head t n from r (omega arith)

    pub begins_second : Held t (from + POINT)
    begins_second = run_head t (n - 1) (from + POINT) (run_rest t n from r (omega arith)) (omega arith)

    pub begins_is : (p q : Point) (u v : Bool) → p ≡ point_in t from → q ≡ point_in t (from + POINT) → u ≡ outside b p → v ≡ outside b q → (u && v) ≡ begins_outside b (points_in t n from)
    begins_is p q u v e f g i =
        let l : points_in t n from ≡ point_in t from ∷ point_in t (from + POINT) ∷ points_in t (n - 1 - 1) (from + POINT + POINT) =
        points_next t n from (omega arith) ∙ ap (λ (x : List Point). point_in t from ∷ x) (points_next t (n - 1) (from + POINT) (omega arith))
        in
        ap (λ (x : Bool). x && v) (g ∙ ap (outside b) e) ∙ ap (λ (x : Bool). outside b (point_in t from) && x) (i ∙ ap (outside b) f) ∙ ap (begins_outside b) (sym l)
