-- The middle of a box: `Rect::mid_point` of core.rs.
use Rattle.std.specs.Prelude.{ℤ, pos, ◌+ℤ◌}
use Rattle.std.specs.Int.Signed.{quot_z}
use Rattle.geometry.specs.declared.Point.{Point}
use Rattle.geometry.specs.declared.Rect.{Rect}

-- halved toward zero
abbrev pub half : ℤ → ℤ → ℤ
half a b = quot_z (a +ℤ b) (pos 2)

-- its z is 0
unfoldable pub mid_point : Rect → Point
mid_point b = record { x = half b.left b.right; y = half b.top b.bottom; z = 0 }
