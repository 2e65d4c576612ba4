-- The box of a path encloses each of its points.
use mathlib.Core.Path.{◌≡◌, refl, sym, subst}
use mathlib.Core.Bool.{Bool, true, false, cond}
use mathlib.Core.List.{List, [], ◌∷◌}
use mathlib.Core.Option.{some}
use native.Mathlib.Omega.{arith}
use lib.IntN.{ℤ}
use lib.Signed.{lt_z}
use Rattle.geometry.specs.declared.Point.{Point}
use Rattle.geometry.specs.declared.Rect.{Rect}
use Rattle.geometry.specs.Box.{lesser, greater, around, widen, widen_all, box_of}
use Rattle.rays.proofs.Shortcuts.{lt_parts, ge_parts, parts_ge}
use Rattle.containing.specs.Outside.{Encloses, AllEnclosed}

not_less : (a : ℤ) → lt_z a a ≡ false
not_less a = parts_ge a a (omega arith)

module _ (a c : ℤ) where
  lesser_keeps : (z : ℤ) → lt_z z a ≡ false → lt_z z (lesser a c) ≡ false
  lesser_keeps z h = go (lt_z c a) refl
    where
      go : (t : Bool) → lt_z c a ≡ t → lt_z z (cond t c a) ≡ false
      go true e = parts_ge z c (omega (arith, ge_parts z a h, lt_parts c a e))
      go false e = h

  lesser_holds : lt_z c (lesser a c) ≡ false
  lesser_holds = go (lt_z c a) refl
    where
      go : (t : Bool) → lt_z c a ≡ t → lt_z c (cond t c a) ≡ false
      go true e = not_less c
      go false e = e

  greater_keeps : (z : ℤ) → lt_z a z ≡ false → lt_z (greater a c) z ≡ false
  greater_keeps z h = go (lt_z a c) refl
    where
      go : (t : Bool) → lt_z a c ≡ t → lt_z (cond t c a) z ≡ false
      go true e = parts_ge c z (omega (arith, ge_parts a z h, lt_parts a c e))
      go false e = h

  greater_holds : lt_z (greater a c) c ≡ false
  greater_holds = go (lt_z a c) refl
    where
      go : (t : Bool) → lt_z a c ≡ t → lt_z (cond t c a) c ≡ false
      go true e = not_less c
      go false e = e

widen_keeps : (b : Rect) (p q : Point) → Encloses b q → Encloses (widen b p) q
unfolding widen
widen_keeps b p q h =
    record {
      left = lesser_keeps b.left p.x q.x h.left;
      top = lesser_keeps b.top p.y q.y h.top;
      right = greater_keeps b.right p.x q.x h.right;
      bottom = greater_keeps b.bottom p.y q.y h.bottom;
    }

widen_holds : (b : Rect) (p : Point) → Encloses (widen b p) p
unfolding widen
widen_holds b p =
    record { left = lesser_holds b.left p.x; top = lesser_holds b.top p.y; right = greater_holds b.right p.x; bottom = greater_holds b.bottom p.y }

all_keeps : (b : Rect) (ps : List Point) (q : Point) → Encloses b q → Encloses (widen_all b ps) q
all_keeps b [] q h = h
all_keeps b (p ∷ ps) q h = all_keeps (widen b p) ps q (widen_keeps b p q h)

all_holds : (b : Rect) (ps : List Point) → AllEnclosed (widen_all b ps) ps
all_holds b [] = tt
all_holds b (p ∷ ps) = (all_keeps (widen b p) ps p (widen_holds b p), all_holds (widen b p) ps)

pub bounds_enclose : (ps : List Point) (b : Rect) → some b ≡ box_of ps → AllEnclosed b ps
bounds_enclose [] b e = tt
bounds_enclose (p ∷ ps) b e =
    let z : b ≡ widen_all (around p) ps = cc in
    let h : Encloses (around p) p = record { left = not_less p.x; top = not_less p.y; right = not_less p.x; bottom = not_less p.y } in
    subst (λ (y : Rect). AllEnclosed y (p ∷ ps)) (sym z) (all_keeps (around p) ps p h, all_holds (around p) ps)
