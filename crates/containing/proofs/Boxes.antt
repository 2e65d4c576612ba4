-- The box of a path and its middle, as the code's words hold them; both stay within the limit.
use Prim.Native.Nat.{ℕ, suc, ◌+◌, ◌-◌, ◌/◌, ◌≤◌, ◌<◌, ◌^◌}
use mathlib.Core.Path.{◌≡◌, refl, sym, ap, ◌∙◌, subst}
use mathlib.Core.Bool.{Bool, true, false, cond}
use mathlib.Core.List.{List, [], ◌∷◌}
use mathlib.Core.Option.{Option, some}
use native.Mathlib.Omega.{arith}
use lib.IntN.{ℤ, pos, negsuc, nat_abs, ◌+ℤ◌}
use lib.Signed.{lt_z, quot_z}
use mir.Syntax.{w32}
use mir.Val.{SFits}
use mir.Facts.{to_z-of_z}
use Rattle.exact.specs.Num.{Within}
use Rattle.exact.proofs.Size.{size_neg}
use Rattle.exact.proofs.Words.{i32, Held, held_here, held_is, held_32, held_add, fits_32, back_32}
use Rattle.geometry.specs.declared.Point.{Point}
use Rattle.geometry.specs.Table.{InTable, AllInTable}
use Rattle.listing.specs.Needs as goal
use Rattle.listing.specs.Fields.{point_in, points_in}
use Rattle.listing.specs.Needs.{Run}
use Rattle.listing.proofs.Runs.{run_rest, head_at, rest_at, points_at, points_over}
use Rattle.geometry.specs.declared.Rect.{Rect}
use Rattle.geometry.specs.Box.{lesser, greater, around, widen, widen_all, box_of}
use Rattle.paths.specs.Tray.{POINT}
use Rattle.containing.specs.Middle.{half, mid_point}
use Rattle.containing.specs.Needs.{BoxIn, Widening}

-- ---- the lesser and the greater
module _ {a b : ℤ} (h : SFits w32 a) (k : SFits w32 b) where
  either : (t : Bool) → SFits w32 (cond t b a)
  either true = k
  either false = h

  pub lesser_of : {r : ℤ} → r ≡ lesser (i32 a) (i32 b) → i32 r ≡ lesser a b
  lesser_of {r} e = let d : r ≡ lesser a b = e ∙ rw (to_z-of_z h, to_z-of_z k) in rw d (to_z-of_z (either (lt_z b a)))

  pub greater_of : {r : ℤ} → r ≡ greater (i32 a) (i32 b) → i32 r ≡ greater a b
  greater_of {r} e = let d : r ≡ greater a b = e ∙ rw (to_z-of_z h, to_z-of_z k) in rw d (to_z-of_z (either (lt_z a b)))

-- a box's sides, and a point's coordinates, are words
pub record Words (b : Rect) (p : Point) : Type 0 where
  pub left : SFits w32 b.left
  pub top : SFits w32 b.top
  pub right : SFits w32 b.right
  pub bottom : SFits w32 b.bottom
  pub x : SFits w32 p.x
  pub y : SFits w32 p.y

pub widen_is : (b : Rect) (p : Point) (l u r d : ℤ) → Words b p
    → l ≡ lesser (i32 b.left) (i32 p.x) → u ≡ lesser (i32 b.top) (i32 p.y) → r ≡ greater (i32 b.right) (i32 p.x) → d ≡ greater (i32 b.bottom) (i32 p.y)
    → ◌≡◌ {A = Rect} (record { left = i32 l; top = i32 u; right = i32 r; bottom = i32 d }) (widen b p)
unfolding widen
widen_is b p l u r d w e f g h = rw (lesser_of w.left w.x e, lesser_of w.top w.y f, greater_of w.right w.x g, greater_of w.bottom w.y h)

-- ---- through a list
module _ (t : List ℕ) where
  begins : (m from : ℕ) (p : Point) (b : Rect) → Run t m (from + POINT) → p ≡ point_in t from → b ≡ around p → Widening t b (from + POINT) m (box_of (points_in t (suc m) from))
  begins m from p b r e f = record { rest = r; all = ap (λ (x : Rect). some (widen_all x (points_in t m (from + POINT)))) (f ∙ ap around e) }

  pub widening_begins : (n from : ℕ) (p : Point) (b : Rect) → Run t n from → 0 < n → p ≡ point_in t from → b ≡ around p → Widening t b (from + POINT) (n - 1) (box_of (points_in t n from))
  widening_begins n from p b r h e f =
      let z : suc (n - 1) ≡ n = omega arith in
      subst (λ (k : ℕ). Widening t b (from + POINT) (n - 1) (box_of (points_in t k from))) z (begins (n - 1) from p b (run_rest t n from r h) e f)

  module _ (b : Rect) (at c i : ℕ) (total : Option Rect) (w : Widening t b at (c - i) total) where
    pub widening_head : i < c → goal.Held t at
    widening_head h = head_at t c i at w.rest h

    pub widening_on : (q : Point) (b' : Rect) → i < c → q ≡ point_in t at → b' ≡ widen b q → Widening t b' (at + POINT) (c - (i + 1)) total
    widening_on q b' h e f =
        record {
          rest = rest_at t c i at w.rest h;
          all = ap (λ (x : Rect). some (widen_all x (points_in t (c - (i + 1)) (at + POINT)))) (f ∙ ap (widen b) e) ∙ ap (λ (l : List Point). some (widen_all b l)) (sym (points_at t c i at h)) ∙ w.all;
        }

    pub widening_ends : c ≤ i → some b ≡ total
    widening_ends h = ap (λ (l : List Point). some (widen_all b l)) (sym (points_over t c i at h)) ∙ w.all

-- ---- half a sum
half_size : (z : ℤ) → nat_abs (quot_z z (pos 2)) ≡ nat_abs z / 2
half_size (pos n) = refl
half_size (negsuc n) = size_neg (pos (suc n / 2))

half_within : {z : ℤ} {m : ℕ} → Within (m + m) z → Within m (quot_z z (pos 2))
half_within {z} {m} h = record { size = omega (arith, half_size z, h.size) }

module _ {a b : ℤ} (h : Within (2 ^ 20) a) (k : Within (2 ^ 20) b) where
  sum_held : Held (i32 a +ℤ i32 b) (a +ℤ b) (2 ^ 20 + 2 ^ 20)
  sum_held = held_add (held_32 (held_here h) tt) (held_32 (held_here k) tt)

  pub sum_fits : SFits w32 (i32 a +ℤ i32 b)
  sum_fits = fits_32 sum_held tt

  half_in : Within (2 ^ 20) (half a b)
  half_in = half_within sum_held.within

  half_held : Held (quot_z (i32 (i32 a +ℤ i32 b)) (pos 2)) (half a b) (2 ^ 20)
  half_held = record { is = ap (λ (x : ℤ). quot_z x (pos 2)) (held_32 sum_held tt).is; within = half_in }

  pub half_fits : SFits w32 (quot_z (i32 (i32 a +ℤ i32 b)) (pos 2))
  half_fits = fits_32 half_held tt

  pub half_is : i32 (quot_z (i32 (i32 a +ℤ i32 b)) (pos 2)) ≡ half a b
  half_is = (held_32 half_held tt).is

  -- the answer of `half`
  pub middle_of : {r : ℤ} → r ≡ half (i32 a) (i32 b) → i32 r ≡ half a b
  middle_of {r} e =
      let g : r ≡ half a b = e ∙ ap (λ (x : ℤ). half x (i32 b)) (back_32 h tt) ∙ ap (half a) (back_32 k tt) in
      (held_32 (held_is g (held_here half_in)) tt).is

pub mid_is : (b : Rect) (x y r s : ℤ) → BoxIn b → r ≡ half (i32 b.left) (i32 b.right) → s ≡ half (i32 b.top) (i32 b.bottom) → ◌≡◌ {A = Point} (record { x = i32 r; y = i32 s; z = 0 }) (mid_point b)
unfolding mid_point
mid_is b x y r s h e f = rw (middle_of h.left h.right e, middle_of h.top h.bottom f)

-- ---- within the limit
pick : {a b : ℤ} {m : ℕ} → (t : Bool) → Within m a → Within m b → Within m (cond t b a)
pick true h k = k
pick false h k = h

widen_in : (b : Rect) (p : Point) → BoxIn b → InTable p → BoxIn (widen b p)
unfolding widen
widen_in b p h k =
    record {
      left = pick (lt_z p.x b.left) h.left k.x;
      top = pick (lt_z p.y b.top) h.top k.y;
      right = pick (lt_z b.right p.x) h.right k.x;
      bottom = pick (lt_z b.bottom p.y) h.bottom k.y;
    }

all_in : (b : Rect) (ps : List Point) → BoxIn b → AllInTable ps → BoxIn (widen_all b ps)
all_in b [] h k = h
all_in b (p ∷ ps) h k = all_in (widen b p) ps (widen_in b p h k.0) k.1

pub bounds_in : (ps : List Point) (b : Rect) → some b ≡ box_of ps → AllInTable ps → BoxIn b
bounds_in [] b e h = let z : ◌≡◌ {A = ℕ} 0 1 = cc in absurd (omega arith)
bounds_in (p ∷ ps) b e h =
    let z : b ≡ widen_all (around p) ps = cc in rw z (all_in (around p) ps (record { left = h.0.x; top = h.0.y; right = h.0.x; bottom = h.0.y }) h.1)

pub mid_in : (b : Rect) → BoxIn b → InTable (mid_point b)
unfolding mid_point
mid_in b h = record { x = half_in h.left h.right; y = half_in h.top h.bottom }
