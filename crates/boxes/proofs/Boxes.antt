-- The box of a list: appended, rotated; the points that it holds; a point put in or taken out. Assumes nothing.
use mathlib.Core.Path.{◌≡◌, refl, sym, ap, ◌∙◌, subst}
use mathlib.Core.Logic.{◌↔◌, ◌≢◌}
use mathlib.Core.Bool.{Bool, true, false, not, cond}
use mathlib.Core.List.{List, [], ◌∷◌, ◌++◌}
use mathlib.Core.Option.{Option, none, some}
use Prim.Native.Nat.{ℕ, zero, suc}
use lib.Dec.{T}
use lib.IntN.{ℤ}
use lib.Signed.{le_z, le_z_yes, lt_z, lt_z_no, ◌≤ℤ◌}
use Rattle.rings.specs.Circle.{turn, spin, last_of, init_of, back}
use Rattle.geometry.specs.declared.Point.{Point}
use Rattle.geometry.specs.declared.Rect.{Rect}
use Rattle.geometry.specs.Box.{lesser, greater, around, widen, widen_all, box_of}
use Rattle.crossing.specs.Within.{InBox}
use Rattle.boxes.specs.Within.{RectWithin, BoxWithin, BoxHolds}
use Rattle.boxes.proofs.Sizes.{le_then, less_le, lesser_left, lesser_right, greater_left, greater_right, span, join, within_self, within_then, join_left, join_right, join_least, join_swap, join_group, join_absorbs}

-- ---- one point more
widened : (b : Rect) (c : List Point) → some (widen_all b c) ≡ join (some b) (box_of c)
unfolding widen
widened b [] = refl
widened b (p ∷ c) = widened (widen b p) c ∙ join_group (some b) (some (around p)) (box_of c) ∙ ap (join (some b)) (sym (widened (around p) c))

pub box_more : (p : Point) (c : List Point) → box_of (p ∷ c) ≡ join (some (around p)) (box_of c)
box_more p c = widened (around p) c

pub box_append : (a b : List Point) → box_of (a ++ b) ≡ join (box_of a) (box_of b)
box_append [] b = refl
box_append (p ∷ a) b =
    box_more p (a ++ b) ∙ ap (join (some (around p))) (box_append a b) ∙ sym (join_group (some (around p)) (box_of a) (box_of b)) ∙ ap (λ (z : Option Rect). join z (box_of b)) (sym (box_more p a))

box_rotate : (a b : List Point) → box_of (a ++ b) ≡ box_of (b ++ a)
box_rotate a b = box_append a b ∙ join_swap (box_of a) (box_of b) ∙ sym (box_append b a)

pub box_turn : (c : List Point) → box_of (turn c) ≡ box_of c
box_turn [] = refl
box_turn (x ∷ xs) = box_rotate xs (x ∷ [])

pub box_spin : (k : ℕ) (c : List Point) → box_of (spin k c) ≡ box_of c
box_spin zero c = refl
box_spin (suc k) c = box_spin k (turn c) ∙ box_turn c

back_turned : (x : Point) (xs : List Point) → init_of x xs ++ (last_of x xs ∷ []) ≡ x ∷ xs
back_turned x [] = refl
back_turned x (y ∷ ys) = ap (λ (l : List Point). x ∷ l) (back_turned y ys)

pub box_back : (c : List Point) → box_of (back c) ≡ box_of c
box_back [] = refl
box_back (x ∷ xs) = sym (box_rotate (init_of x xs) (last_of x xs ∷ [])) ∙ ap box_of (back_turned x xs)

-- ---- its points
-- Q of every point
abbrev pub Each : {A : Type 0} → (A → Type 0) → List A → Type 0
Each Q [] = Unit {0}
Each Q (x ∷ xs) = Q x × Each Q xs

module _ (p : Point) (c : List Point) where
  pub holds_head : BoxHolds (box_of (p ∷ c)) p
  holds_head = subst (BoxWithin (some (around p))) (sym (box_more p c)) (join_left (some (around p)) (box_of c))

  holds_rest : BoxWithin (box_of c) (box_of (p ∷ c))
  holds_rest = subst (BoxWithin (box_of c)) (sym (box_more p c)) (join_right (some (around p)) (box_of c))

-- a box lies within another exactly if each of the points lies in it: it is the least that holds them
pub within_points : (c : List Point) (b : Option Rect) → BoxWithin (box_of c) b ↔ Each (BoxHolds b) c
within_points [] b = (λ h. tt, λ h. tt)
within_points (p ∷ c) b = (
  λ h. (within_then (some (around p)) (box_of (p ∷ c)) b (holds_head p c) h, (within_points c b).0 (within_then (box_of c) (box_of (p ∷ c)) b (holds_rest p c) h)),
  λ h. subst (λ (z : Option Rect). BoxWithin z b) (sym (box_more p c)) (join_least (some (around p)) (box_of c) b h.0 ((within_points c b).1 h.1)),
)

pub holds_own : (c : List Point) → Each (BoxHolds (box_of c)) c
holds_own c = (within_points c (box_of c)).0 (within_self (box_of c))

holds_last : (p : Point) (c : List Point) → BoxHolds (box_of (p ∷ c)) (last_of p c)
holds_last p [] = holds_head p []
holds_last p (q ∷ c) = within_then (some (around (last_of q c))) (box_of (q ∷ c)) (box_of (p ∷ q ∷ c)) (holds_last q c) (holds_rest p (q ∷ c))

-- ---- a point put in, or taken out, that the others' box holds
box_take : (x : Point) (c : List Point) → BoxHolds (box_of c) x → box_of c ≡ box_of (x ∷ c)
box_take x c h = sym (box_more x c ∙ join_absorbs (some (around x)) (box_of c) h)

pub box_put : (a b : List Point) (p : Point) → BoxHolds (box_of (a ++ b)) p → box_of (a ++ p ∷ b) ≡ box_of (a ++ b)
box_put a b p h = box_rotate a (p ∷ b) ∙ sym (box_take p (b ++ a) (subst (λ (z : Option Rect). BoxHolds z p) (box_rotate a b) h)) ∙ box_rotate b a

-- the box of two points, by the test that the edge's box has
low_there : (a b v : ℤ) → T (le_z (cond (le_z a b) a b) v) → lesser a b ≤ℤ v
low_there a b v h = go (le_z a b) h
  where
    go : (t : Bool) → T (le_z (cond t a b) v) → lesser a b ≤ℤ v
    go true k = le_then (lesser_left a b) (le_z_yes k)
    go false k = le_then (lesser_right a b) (le_z_yes k)

high_there : (a b v : ℤ) → T (le_z v (cond (le_z a b) b a)) → v ≤ℤ greater a b
high_there a b v h = go (le_z a b) h
  where
    go : (t : Bool) → T (le_z v (cond t b a)) → v ≤ℤ greater a b
    go true k = le_then (le_z_yes k) (greater_right a b)
    go false k = le_then (le_z_yes k) (greater_left a b)

-- a box that holds two points holds what lies in their box
pub holds_span : (z : Option Rect) (a b p : Point) → BoxHolds z a → BoxHolds z b → RectWithin (around p) (span (around a) (around b)) → BoxHolds z p
holds_span z a b p h k i = within_then (some (around p)) (some (span (around a) (around b))) z i (join_least (some (around a)) (some (around b)) z h k)

-- so it holds a point in the box of an edge
pub holds_edge : (z : Option Rect) (a b p : Point) → BoxHolds z a → BoxHolds z b → InBox a b p → BoxHolds z p
holds_edge z a b p h k i =
    holds_span z a b p h k
    (record {
      left = low_there a.x b.x p.x i.x.low;
      top = low_there a.y b.y p.y i.y.low;
      right = high_there a.x b.x p.x i.x.high;
      bottom = high_there a.y b.y p.y i.y.high;
    })

-- taken out between its neighbours: the point before and the point after are the last and the first of the others
pub box_between : (x y : Point) (r : List Point) → RectWithin (around x) (span (around (last_of y r)) (around y)) → box_of (y ∷ r) ≡ box_of (x ∷ y ∷ r)
box_between x y r i = box_take x (y ∷ r) (holds_span (box_of (y ∷ r)) (last_of y r) y x (holds_last y r) (holds_head y r) i)

-- ---- taken out where it is on no side: strictly inside, if the box holds the point
pub record RectMisses (s : Rect) (p : Point) : Type 0 where
  pub left : s.left ≢ p.x
  pub top : s.top ≢ p.y
  pub right : s.right ≢ p.x
  pub bottom : s.bottom ≢ p.y

abbrev pub BoxMisses : Option Rect → Point → Type 0
BoxMisses none p = ⊥
BoxMisses (some s) p = RectMisses s p

lesser_else : (a b : ℤ) → lesser a b ≢ a → b ≤ℤ a
lesser_else a b n = go (lt_z b a) (less_le b a) n
  where
    go : (t : Bool) → (T t → b ≤ℤ a) → (cond t b a ≡ a → ⊥) → b ≤ℤ a
    go true h k = h tt
    go false h k = absurd (k refl)

greater_else : (a b : ℤ) → greater a b ≢ a → a ≤ℤ b
greater_else a b n = go (lt_z a b) (less_le a b) n
  where
    go : (t : Bool) → (T t → a ≤ℤ b) → (cond t b a ≡ a → ⊥) → a ≤ℤ b
    go true h k = h tt
    go false h k = absurd (k refl)

pub box_missed : (x : Point) (c : List Point) → BoxMisses (box_of (x ∷ c)) x → box_of c ≡ box_of (x ∷ c)
box_missed x c u = box_take x c (go (box_of c) (subst (λ (z : Option Rect). BoxMisses z x) (box_more x c) u))
  where
    go : (z : Option Rect) → BoxMisses (join (some (around x)) z) x → BoxHolds z x
    go none u = u.left refl
    go (some t) u =
        record {
          left = lesser_else x.x t.left u.left;
          top = lesser_else x.y t.top u.top;
          right = greater_else x.x t.right u.right;
          bottom = greater_else x.y t.bottom u.bottom;
        }
