-- Boxes within boxes, and places in them, edges counted.
use Rattle.std.proofs.Math.Option.{Option, none, some}
use Rattle.std.specs.Prelude.{◌≤ℤ◌}
use Rattle.geometry.specs.declared.Point.{Point}
use Rattle.geometry.specs.declared.Rect.{Rect}
use Rattle.geometry.specs.Box.{around}

-- a passes no side of b
pub record RectWithin (a b : Rect) : Type 0 where
  pub left : b.left ≤ℤ a.left
  pub top : b.top ≤ℤ a.top
  pub right : a.right ≤ℤ b.right
  pub bottom : a.bottom ≤ℤ b.bottom

-- the same of rings that may have no points
abbrev pub BoxWithin : Option Rect → Option Rect → Type 0
BoxWithin none b = Unit {0}
BoxWithin (some a) none = ⊥
BoxWithin (some a) (some b) = RectWithin a b

-- a place lies in a box
abbrev pub InRect : Rect → Point → Type 0
InRect b p = RectWithin (around p) b

abbrev pub BoxHolds : Option Rect → Point → Type 0
BoxHolds b p = BoxWithin (some (around p)) b
