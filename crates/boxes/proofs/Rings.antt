-- What a step does to a lone ring's box: ring and offcut lie within the box before.
use mathlib.Core.Path.{◌≡◌, refl, sym, ap, ◌∙◌, subst}
use mathlib.Core.Bool.{Bool, true, false, cond}
use mathlib.Core.List.{List, [], ◌∷◌}
use mathlib.Core.Option.{Option, none, some}
use Prim.Native.Nat.{ℕ}
use native.Mathlib.Omega.{arith}
use Rattle.rings.specs.Circle.{spin, last_of, rest}
use Rattle.rings.specs.Progress.{Due, validity, removal, triangle, split, done, Discard, while_removing, Ring, tidy_at, tidy}
use Rattle.geometry.specs.declared.Point.{Point}
use Rattle.geometry.specs.declared.Rect.{Rect}
use Rattle.geometry.specs.Box.{box_of}
use Rattle.geometry.specs.Table.{InTable}
use Rattle.geometry.specs.Plane.{removable}
use Rattle.crossing.proofs.Crossings.{crossing_in_box, crossing_in_table}
use Rattle.lone.specs.Act.{Act, discard, drop_point, move_on}
use Rattle.lone.specs.Lone.{is_valid_closed_path, removal_turn, decide, act_of, step_ring, offcut_ring}
use Rattle.lone.specs.Plane.{plane}
use Rattle.lone.proofs.Turning.{validity_cases, split_cases}
use Rattle.boxes.specs.Within.{BoxWithin, BoxHolds}
use Rattle.boxes.specs.Acts.{spike}
use Rattle.boxes.proofs.Boxes.{Each, box_spin, within_points, holds_own, holds_edge}
use Rattle.boxes.proofs.InLine.{removable_line, box_dropped}
use Rattle.boxes.proofs.Points.{OfNew, of_act, each_step, each_cuts}

-- on the table, and in the box b
pub record TabledIn (b : Option Rect) (p : Point) : Type 0 where
  pub table : InTable p
  pub holds : BoxHolds b p

module _ (b : Option Rect) where
  tabled_all : (c : List Point) → Each InTable c → Each (BoxHolds b) c → Each (TabledIn b) c
  tabled_all [] h k = tt
  tabled_all (p ∷ c) h k = (record { table = h.0; holds = k.0 }, tabled_all c h.1 k.1)

  tabled_holds : (c : List Point) → Each (TabledIn b) c → Each (BoxHolds b) c
  tabled_holds [] h = tt
  tabled_holds (p ∷ c) h = (h.0.holds, tabled_holds c h.1)

  tabled_within : (c : List Point) → Each (TabledIn b) c → BoxWithin (box_of c) b
  tabled_within c h = (within_points c b).1 (tabled_holds c h)

  tabled_meets : (preserve : Bool) (p q r s : Point) → TabledIn b p → TabledIn b q → TabledIn b ((plane preserve).crossing_point p q r s)
  tabled_meets preserve p q r s h k =
      record { table = crossing_in_table r s h.table k.table; holds = holds_edge b p q ((plane preserve).crossing_point p q r s) h.holds k.holds (crossing_in_box r s h.table k.table) }

tabled_own : (c : List Point) → Each InTable c → Each (TabledIn (box_of c)) c
tabled_own c h = tabled_all (box_of c) c h (holds_own c)

module _ (preserve : Bool) (R : Ring Point) (table : Each InTable R.circle) where
  -- after a step the ring's box lies within the one before, and so does the offcut's
  pub step_within : BoxWithin (box_of (step_ring (plane preserve) R).circle) (box_of R.circle)
  step_within =
      tabled_within (box_of R.circle) (step_ring (plane preserve) R).circle
      (each_step (TabledIn (box_of R.circle)) (plane preserve) (tabled_meets (box_of R.circle) preserve) R (tabled_own R.circle table))

  pub offcut_within : (O : Ring Point) → offcut_ring (plane preserve) R ≡ some O → BoxWithin (box_of O.circle) (box_of R.circle)
  offcut_within O e =
      tabled_within (box_of R.circle) O.circle
      (each_cuts (TabledIn (box_of R.circle)) (plane preserve) (tabled_meets (box_of R.circle) preserve) R O (tabled_own R.circle table) e)

  -- and so does the point that a step makes
  pub act_new : OfNew (TabledIn (box_of R.circle)) (act_of (plane preserve) R)
  act_new = of_act (TabledIn (box_of R.circle)) (plane preserve) (tabled_meets (box_of R.circle) preserve) R (tabled_own R.circle table)

pub box_tidy : (R : Ring Point) → box_of (tidy R).circle ≡ box_of R.circle
box_tidy R = go R.circle R.first R.start R.due R.why
  where
    go : (c : List Point) (f : ℕ) (s : Option ℕ) (d : Due) (y : Option Discard) → box_of (tidy_at c f s d y).circle ≡ box_of c
    go c f s validity y = box_spin f c
    go c f s removal y = refl
    go c f s triangle y = box_spin f c
    go c f s split y = refl
    go c f s done y = box_spin f c

-- ---- a drop is decided only of a point in line, on a circle of at least two: no spike leaves the box
unfoldable pub Drops : List Point → Act Point → Type 0
Drops c act = act ≡ drop_point → spike c ≡ false → box_of (rest c) ≡ box_of c

module _ (preserve : Bool) where
  drop_kept : (c : List Point) (s : Option ℕ) → removal_turn (plane preserve) c s ≡ drop_point → spike c ≡ false → box_of (rest c) ≡ box_of c
  unfolding removal_turn spike
  drop_kept [] s e k = refl
  drop_kept (x ∷ []) s e k = absurd (go (removable preserve x x x) _ e)
    where
      go : (b : Bool) (d : Due) → ◌≡◌ {A = Act Point} (cond b (discard while_removing) (move_on d)) drop_point → ⊥
      go true d e = let z : ◌≡◌ {A = ℕ} 0 1 = cc in absurd (omega arith)
      go false d e = let z : ◌≡◌ {A = ℕ} 0 1 = cc in absurd (omega arith)
  drop_kept (x ∷ y ∷ r) s e k = go (removable preserve (last_of y r) x y) refl (is_valid_closed_path (plane preserve) (y ∷ r)) _ e
    where
      go : (a : Bool) → removable preserve (last_of y r) x y ≡ a → (b : Bool) (d : Due) → ◌≡◌ {A = Act Point} (cond a (cond b drop_point (discard while_removing)) (move_on d)) drop_point → box_of (y ∷ r) ≡ box_of (x ∷ y ∷ r)
      go true h b d e = box_dropped x y r (removable_line preserve (last_of y r) x y h) k
      go false h b d e = let z : ◌≡◌ {A = ℕ} 0 1 = cc in absurd (omega arith)

  pub drop_decided : (c : List Point) (f : ℕ) (s : Option ℕ) (d : Due) → Drops c (decide (plane preserve) c f s d)
  unfolding Drops decide
  drop_decided c f s validity = validity_cases (plane preserve) (Drops c) c f s (λ e k. let z : ◌≡◌ {A = ℕ} 0 1 = cc in absurd (omega arith)) (λ e k. let z : ◌≡◌ {A = ℕ} 0 1 = cc in absurd (omega arith))
  drop_decided c f s removal = drop_kept c s
  drop_decided c f s triangle = λ e k. let z : ◌≡◌ {A = ℕ} 0 1 = cc in absurd (omega arith)
  drop_decided c f s split = split_cases (plane preserve) (Drops c) c f s (λ e k. let z : ◌≡◌ {A = ℕ} 0 1 = cc in absurd (omega arith)) (λ x xs h b i e k. let z : ◌≡◌ {A = ℕ} 0 1 = cc in absurd (omega arith))
      (λ x xs h m v o b i e k. let z : ◌≡◌ {A = ℕ} 0 1 = cc in absurd (omega arith)) (λ x xs h m v o put off b i e k. let z : ◌≡◌ {A = ℕ} 0 1 = cc in absurd (omega arith))
  drop_decided c f s done = λ e k. let z : ◌≡◌ {A = ℕ} 0 1 = cc in absurd (omega arith)
