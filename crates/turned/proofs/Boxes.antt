-- Boxes are beside the settings: written before other settings or after, they come to the same.
use Prim.Native.Nat.{ℕ, zero, suc, ◌<◌}
use mathlib.Core.Path.{◌≡◌, refl, ap, ◌∙◌}
use mathlib.Core.Bool.{Bool, true, false, cond}
use mathlib.Core.List.{List}
use mathlib.Core.Option.{Option}
use native.Mathlib.Omega.{arith}
use lib.Dec.{ltb}
use lib.ListN.{set}
use lib.Seq.{set_comm}
use Rattle.geometry.specs.declared.Rect.{Rect}
use Rattle.store.specs.declared.boxed.Sides.{Sides}
use Rattle.store.specs.Words.{view}
use Rattle.store.specs.Named.{records_of}
use Rattle.store.specs.Boxes.{side_at, set_sides, sides_of, ring_box, boxed_at, boxed_to, all_boxed}
use Rattle.acts.specs.Finish.{RingsEnd, rings_done, rings_full}
use Rattle.finishing.specs.Finish.{then_boxed}
use Rattle.turned.proofs.Settings.{re, cell_re}
use Rattle.turned.proofs.Judging.{box_re}
use Rattle.turned.proofs.Finishing.{re_rings}

module _ (v : ℕ) where
  set_re : (w : List ℕ) (k x : ℕ) → 0 < k → set (re v w) k x ≡ re v (set w k x)
  unfolding re
  set_re w k x h = set_comm w 0 k v x (λ z. omega arith)

  sides_set_re : (w : List ℕ) (i : ℕ) (b : Sides) → set_sides (re v w) i b ≡ re v (set_sides w i b)
  unfolding set_sides
  sides_set_re w i b =
      let w₁ : List ℕ = set w (side_at 0 i) b.left in
      let w₂ : List ℕ = set w₁ (side_at 1 i) b.top in
      let w₃ : List ℕ = set w₂ (side_at 2 i) b.right in
      ap (λ (u : List ℕ). set (set (set u (side_at 1 i) b.top) (side_at 2 i) b.right) (side_at 3 i) b.bottom) (set_re w (side_at 0 i) b.left (omega arith))
      ∙ ap (λ (u : List ℕ). set (set u (side_at 2 i) b.right) (side_at 3 i) b.bottom) (set_re w₁ (side_at 1 i) b.top (omega arith))
      ∙ ap (λ (u : List ℕ). set u (side_at 3 i) b.bottom) (set_re w₂ (side_at 2 i) b.right (omega arith))
      ∙ set_re w₃ (side_at 3 i) b.bottom (omega arith)

  records_re : (w : List ℕ) → records_of (re v w) ≡ records_of w
  records_re w = simp cell_re

  boxed_re : (w : List ℕ) (i : ℕ) → boxed_at (re v w) i ≡ re v (boxed_at w i)
  unfolding boxed_at
  boxed_re w i =
      ap (λ (n : ℕ). cond (ltb i n) (set_sides (re v w) i (sides_of (ring_box (view (re v w)) i))) (re v w)) (records_re w)
      ∙ ap (λ (f : ℕ → Option Rect). cond (ltb i (records_of w)) (set_sides (re v w) i (sides_of (f i))) (re v w)) (box_re v w)
      ∙ ap (λ (u : List ℕ). cond (ltb i (records_of w)) u (re v w)) (sides_set_re w i (sides_of (ring_box (view w) i)))
      ∙ either (ltb i (records_of w)) (set_sides w i (sides_of (ring_box (view w) i))) w
    where
      either : (b : Bool) (x y : List ℕ) → cond b (re v x) (re v y) ≡ re v (cond b x y)
      either true x y = refl
      either false x y = refl

  to_boxed_re : (n : ℕ) (w : List ℕ) → boxed_to n (re v w) ≡ re v (boxed_to n w)
  unfolding boxed_to
  to_boxed_re zero w = refl
  to_boxed_re (suc n) w = ap (λ (u : List ℕ). boxed_at u n) (to_boxed_re n w) ∙ boxed_re (boxed_to n w) n

  pub all_re : (w : List ℕ) → all_boxed (re v w) ≡ re v (all_boxed w)
  unfolding all_boxed
  all_re w = ap (λ (n : ℕ). boxed_to n (re v w)) (records_re w) ∙ to_boxed_re (records_of w) w

  pub then_boxed_re : (r : RingsEnd) → then_boxed (re_rings v r) ≡ re_rings v (then_boxed r)
  then_boxed_re (rings_done w) = ap rings_done (all_re w)
  then_boxed_re (rings_full w) = ap rings_full (all_re w)
