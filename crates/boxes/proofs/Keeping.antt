-- A box that is kept through the acts is the ring's box: `kept_box`.
use mathlib.Core.Path.{◌≡◌, refl, sym, ap, ◌∙◌, subst}
use mathlib.Core.Bool.{Bool, true, false, cond, ◌&&◌, ◌||◌, true≢false}
use mathlib.Core.List.{List, [], ◌∷◌, ◌++◌, append-nil}
use mathlib.Core.Option.{Option, none, some}
use Prim.Native.Nat.{ℕ, ◌≤◌}
use native.Mathlib.Omega.{arith}
use lib.ListN.{length}
use Rattle.exact.specs.Equal.{eq_z}
use Rattle.exact.proofs.Size.{eq_z_false}
use Rattle.rings.specs.Circle.{last_of, init_of, back, rest, cut_circle}
use Rattle.rings.specs.Progress.{Ring}
use Rattle.geometry.specs.declared.Point.{Point}
use Rattle.geometry.specs.declared.Rect.{Rect}
use Rattle.geometry.specs.Box.{box_of}
use Rattle.geometry.specs.Table.{InTable}
use Rattle.lone.specs.Act.{Act, stay, discard, drop_point, move_on, to_first, double, cut, apply}
use Rattle.lone.specs.Lone.{act_of, step_ring}
use Rattle.lone.specs.Kept.{LongEnough}
use Rattle.lone.specs.Plane.{plane}
use Rattle.lone.proofs.Keeping.{long_enough}
use Rattle.lone.proofs.Plane.{plane_laws}
use Rattle.boxes.specs.Within.{BoxHolds}
use Rattle.boxes.specs.Acts.{spike, on_side, present_on_side, either_on_side, may_change, kept_box}
use Rattle.boxes.proofs.Boxes.{Each, box_turn, box_spin, box_back, box_put, BoxMisses, box_missed}
use Rattle.boxes.proofs.Points.{OfNew}
use Rattle.boxes.proofs.Rings.{TabledIn, act_new, box_tidy, Drops, drop_decided}

off_side : (b : Option Rect) (p : Point) → on_side b p ≡ false → BoxMisses b p
unfolding on_side
off_side none p h = absurd (true≢false h)
off_side (some s) p h = go _ _ _ _ h (eq_z_false s.left p.x) (eq_z_false s.top p.y) (eq_z_false s.right p.x) (eq_z_false s.bottom p.y)
  where
    go : (a c d e : Bool) → (a || (c || (d || e))) ≡ false → (a ≡ false → s.left ≡ p.x → ⊥) → (c ≡ false → s.top ≡ p.y → ⊥) → (d ≡ false → s.right ≡ p.x → ⊥) → (e ≡ false → s.bottom ≡ p.y → ⊥) → BoxMisses (some s) p
    go true c d e h l t r o = absurd (true≢false h)
    go false true d e h l t r o = absurd (true≢false h)
    go false false true e h l t r o = absurd (true≢false h)
    go false false false true h l t r o = absurd (true≢false h)
    go false false false false h l t r o = record { left = l refl; top = t refl; right = r refl; bottom = o refl }

-- ---- a drop
dropped_inside : (c : List Point) → present_on_side (box_of c) c ≡ false → box_of (rest c) ≡ box_of c
dropped_inside [] h = refl
dropped_inside (x ∷ c) h = box_missed x c (off_side (box_of (x ∷ c)) x h)

-- ---- a cut
neither : (a b : Bool) → (a || b) ≡ false → (a ≡ false) × (b ≡ false)
neither true b h = absurd (true≢false h)
neither false b h = (refl, h)

cut_inside : (put : Bool) (v : Point) (c : List Point) → 4 ≤ length c → BoxHolds (box_of c) v → either_on_side (box_of c) c ≡ false → box_of (cut_circle put v (back c)) ≡ box_of c
cut_inside put v [] n h t = absurd (omega arith)
cut_inside put v (x ∷ []) n h t = absurd (omega arith)
cut_inside put v (x ∷ y ∷ []) n h t = absurd (omega arith)
cut_inside put v (x ∷ y ∷ z ∷ r) n h t = go put
  where
    t2 : (on_side (box_of (x ∷ y ∷ z ∷ r)) x ≡ false) × (on_side (box_of (x ∷ y ∷ z ∷ r)) y ≡ false)
    t2 = neither (on_side (box_of (x ∷ y ∷ z ∷ r)) x) (on_side (box_of (x ∷ y ∷ z ∷ r)) y) t

    first : box_of (y ∷ z ∷ r) ≡ box_of (x ∷ y ∷ z ∷ r)
    first = box_missed x (y ∷ z ∷ r) (off_side (box_of (x ∷ y ∷ z ∷ r)) x t2.0)

    second : box_of (z ∷ r) ≡ box_of (y ∷ z ∷ r)
    second = box_missed y (z ∷ r) (off_side (box_of (y ∷ z ∷ r)) y (subst (λ (b : Option Rect). on_side b y ≡ false) (sym first) t2.1))

    out : box_of (last_of z r ∷ init_of z r) ≡ box_of (x ∷ y ∷ z ∷ r)
    out = box_back (z ∷ r) ∙ second ∙ first

    go : (put : Bool) → box_of (cut_circle put v (last_of z r ∷ x ∷ y ∷ init_of z r)) ≡ box_of (x ∷ y ∷ z ∷ r)
    go true = box_put (last_of z r ∷ []) (init_of z r) v (subst (λ (b : Option Rect). BoxHolds b v) (sym out) h) ∙ out
    go false = out

module _ (preserve : Bool) (R : Ring Point) (table : Each InTable R.circle) where
  same_by : (act : Act Point) → Drops R.circle act → OfNew (TabledIn (box_of R.circle)) act → LongEnough act (length R.circle) → may_change (box_of R.circle) R.circle act ≡ false
      → box_of (apply (λ (v : Point). v) act R).circle ≡ box_of R.circle
  unfolding Drops
  same_by stay d n l m = refl
  same_by (discard y) d n l m = absurd (true≢false m)
  same_by drop_point d n l m = go (present_on_side (box_of R.circle) R.circle) refl (spike R.circle) refl m
    where
      go : (a : Bool) → present_on_side (box_of R.circle) R.circle ≡ a → (b : Bool) → spike R.circle ≡ b → (a && b) ≡ false → box_of (rest R.circle) ≡ box_of R.circle
      go true e true f m = absurd (true≢false m)
      go true e false f m = d refl f
      go false e b f m = dropped_inside R.circle e
  same_by (move_on x) d n l m = box_turn R.circle
  same_by (to_first x) d n l m = box_spin R.first R.circle
  same_by (double v x) d n l m = added R.circle v n.holds
    where
      added : (c : List Point) (v : Point) → BoxHolds (box_of c) v → box_of (c ++ (v ∷ [])) ≡ box_of c
      added c v h = box_put c [] v (subst (λ (l : List Point). BoxHolds (box_of l) v) (sym (append-nil c)) h) ∙ ap box_of (append-nil c)
  same_by (cut v put off x) d n l m = cut_inside put v R.circle l n.holds m

  kept_by : (act : Act Point) → Drops R.circle act → OfNew (TabledIn (box_of R.circle)) act → LongEnough act (length R.circle) → kept_box (box_of R.circle) R act ≡ box_of (apply (λ (v : Point). v) act R).circle
  unfolding kept_box
  kept_by act d n l = go (may_change (box_of R.circle) R.circle act) (same_by act d n l)
    where
      go : (b : Bool) → (b ≡ false → box_of (apply (λ (v : Point). v) act R).circle ≡ box_of R.circle) → cond b (box_of (apply (λ (v : Point). v) act R).circle) (box_of R.circle) ≡ box_of (apply (λ (v : Point). v) act R).circle
      go true h = refl
      go false h = sym (h refl)

  -- the kept box is the ring's box after the step
  pub kept_is : kept_box (box_of R.circle) R (act_of (plane preserve) R) ≡ box_of (step_ring (plane preserve) R).circle
  unfolding step_ring act_of
  kept_is =
      kept_by (act_of (plane preserve) R) (drop_decided preserve R.circle R.first R.start R.due) (act_new preserve R table)
      (long_enough (plane preserve) (plane_laws preserve) R.circle R.first R.start R.due)
      ∙ sym (box_tidy (apply (λ (v : Point). v) (act_of (plane preserve) R) R))
