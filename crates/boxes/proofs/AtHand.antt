-- What a step has at hand says whether its ring's box may change: the ring is walked only then.
use Prim.Native.Nat.{ℕ}
use mathlib.Core.Path.{◌≡◌, refl, sym, ap, ◌∙◌, subst}
use mathlib.Core.Bool.{Bool, false, ◌&&◌, ◌||◌}
use mathlib.Core.List.{List, [], ◌∷◌, map}
use mathlib.Core.Option.{Option, some}
use lib.Dec.{eqb}
use lib.IntN.{pos}
use lib.Signed.{lt_z}
use Rattle.rings.specs.Circle.{last_of}
use Rattle.rings.specs.Progress.{Ring}
use Rattle.rings.specs.Whole.{Whole}
use Rattle.rings.proofs.Linking.{prev_is}
use Rattle.geometry.specs.declared.Point.{Point}
use Rattle.geometry.specs.declared.Rect.{Rect}
use Rattle.geometry.specs.Plane.{dot_product_three_points}
use Rattle.lone.specs.Act.{Act, discard, drop_point, double, cut}
use Rattle.store.specs.declared.boxed.Sides.{Sides}
use Rattle.store.specs.Field.{pt, rc, X, Y, NEXT, PREV, PRESENT}
use Rattle.store.specs.Words.{Store}
use Rattle.store.specs.Sound.{pts, lone_at}
use Rattle.store.specs.Good.{Sound}
use Rattle.store.specs.Value.{point_at, preserve_collinear}
use Rattle.store.specs.Boxes.{rect_of, ring_box}
use Rattle.bounds.proofs.Widening.{lower_eq}
use Rattle.acts.proofs.Acting.{Ready, to_discard, to_move, to_go_first, to_drop, to_double, to_cut}
use Rattle.acts.proofs.Readiness.{ready}
use Rattle.acts.proofs.Stepping.{Able}
use Rattle.turns.specs.Form.{raised, geometry_of}
use Rattle.turns.proofs.Ready.{laws}
use Rattle.boxes.specs.Acts.{spike, on_side, may_change}
use Rattle.boxes.specs.Beside.{ring_now, act_now}
use Rattle.boxes.specs.AtHand.{side_word, changes_at}

last_map : (f : ℕ → Point) (x : ℕ) (xs : List ℕ) → last_of (f x) (map f xs) ≡ f (last_of x xs)
last_map f x [] = refl
last_map f x (y ∷ ys) = last_map f y ys

module _ (b : Sides) (s : Store) where
  side_word_lem : (k : ℕ) → on_side (some (rect_of b)) (point_at s k) ≡ side_word b s k
  unfolding on_side
  side_word_lem k = rw (lower_eq b.left (s (pt X) k), lower_eq b.top (s (pt Y) k), lower_eq b.right (s (pt X) k), lower_eq b.bottom (s (pt Y) k))

  -- a ring from point x on, linked
  module _ (x y : ℕ) (r : List ℕ) (w : Whole (s (pt NEXT)) (s (pt PREV)) (pts s) (x ∷ y ∷ r)) where
    next_y : s (pt NEXT) x ≡ y
    next_y = w.linked.0

    at_drop : may_change (some (rect_of b)) (map (point_at s) (x ∷ y ∷ r)) drop_point ≡ changes_at b s x drop_point
    unfolding spike
    at_drop =
        ap (λ (t : Bool). t && lt_z (dot_product_three_points (last_of (point_at s y) (map (point_at s) r)) (point_at s x) (point_at s y)) (pos 0)) (side_word_lem x)
        ∙ ap (λ (p : Point). side_word b s x && lt_z (dot_product_three_points p (point_at s x) (point_at s y)) (pos 0)) (last_map (point_at s) y r ∙ ap (point_at s) (sym (prev_is (s (pt NEXT)) (s (pt PREV)) x (y ∷ r) w.linked)))
        ∙ ap (λ (k : ℕ). side_word b s x && lt_z (dot_product_three_points (point_at s (s (pt PREV) x)) (point_at s x) (point_at s k)) (pos 0)) (sym next_y)

    at_cut : (on_side (some (rect_of b)) (point_at s x) || on_side (some (rect_of b)) (point_at s y)) ≡ (side_word b s x || side_word b s (s (pt NEXT) x))
    at_cut = ap (λ (t : Bool). t || on_side (some (rect_of b)) (point_at s y)) (side_word_lem x) ∙ ap (λ (t : Bool). side_word b s x || t) (side_word_lem y ∙ ap (side_word b s) (sym next_y))

  module _ (i : ℕ) where
    -- the record's circle by value, from its loop
    circle_is : {x : ℕ} {l : List ℕ} (R : Ring ℕ) → lone_at s i ≡ R → R.circle ≡ x ∷ l → (ring_now s i).circle ≡ map (point_at s) (x ∷ l)
    circle_is R e g = ap (λ (S : Ring ℕ). map (point_at s) S.circle) e ∙ ap (map (point_at s)) g

    by_ready : (act : Act Point) → Ready raised s i act → may_change (some (rect_of b)) (ring_now s i).circle act ≡ changes_at b s (s (rc PRESENT) i) act
    by_ready act (to_discard y) = refl
    by_ready act (to_move d₀ d e g) = refl
    by_ready act (to_go_first d₀ d e g) = refl
    by_ready act (to_drop e l z w r g) =
        ap (λ (c : List Point). may_change (some (rect_of b)) c drop_point) (circle_is _ l.lone_is (ap (λ (t : List ℕ). s (rc PRESENT) i ∷ t) g))
        ∙ at_drop (s (rc PRESENT) i) z (w ∷ r) (subst (λ (t : List ℕ). Whole (s (pt NEXT)) (s (pt PREV)) (pts s) (s (rc PRESENT) i ∷ t)) g l.whole)
    by_ready act (to_double d₀ d l y r e v n) = refl
    by_ready act (to_cut d₀ d l y z u r e v n put off) =
        ap (λ (c : List Point). may_change (some (rect_of b)) c (cut v put off d)) (circle_is _ l.lone_is (ap (λ (t : List ℕ). s (rc PRESENT) i ∷ t) e))
        ∙ at_cut (s (rc PRESENT) i) y (z ∷ u ∷ r) (subst (λ (t : List ℕ). Whole (s (pt NEXT)) (s (pt PREV)) (pts s) (s (rc PRESENT) i ∷ t)) e l.whole)

    -- of a step that is carried out
    pub at_hand : Sound s → Able (geometry_of s) raised s i → ring_box s i ≡ some (rect_of b) → may_change (ring_box s i) (ring_now s i).circle (act_now s i) ≡ changes_at b s (s (rc PRESENT) i) (act_now s i)
    at_hand o a e =
        ap (λ (x : Option Rect). may_change x (ring_now s i).circle (act_now s i)) e
        ∙ by_ready (act_now s i) (ready (geometry_of s) raised (laws (preserve_collinear s)) s o i a.closed a.going)
