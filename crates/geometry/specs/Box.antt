-- The box of points: `get_bounds_path` of core.rs, whose Rect has the least y as its top.
use Rattle.std.specs.Prelude.{cond, List, [], ◌∷◌, ℤ}
use Rattle.std.proofs.Math.Option.{Option, none, some}
use Rattle.std.specs.Int.Signed.{lt_z}
use Rattle.geometry.specs.declared.Point.{Point}
use Rattle.geometry.specs.declared.Rect.{Rect}

abbrev pub lesser : ℤ → ℤ → ℤ
lesser a b = cond (lt_z b a) b a

abbrev pub greater : ℤ → ℤ → ℤ
greater a b = cond (lt_z a b) b a

-- one point's
abbrev pub around : Point → Rect
around p = record { left = p.x; top = p.y; right = p.x; bottom = p.y }

-- the least box that has a further point too
unfoldable pub widen : Rect → Point → Rect
widen b p = record { left = lesser b.left p.x; top = lesser b.top p.y; right = greater b.right p.x; bottom = greater b.bottom p.y }

abbrev pub widen_all : Rect → List Point → Rect
widen_all b [] = b
widen_all b (p ∷ ps) = widen_all (widen b p) ps

-- the least and greatest x and y; no points have none. (Of none the Rust has a box turned inside out)
abbrev pub box_of : List Point → Option Rect
box_of [] = none
box_of (p ∷ ps) = some (widen_all (around p) ps)
