-- The bytes of points and fields, computed: "path values gain it too, 12 bytes a point"; and the length that always suffices.
use Prim.Native.Nat.{ℕ}
use mathlib.Core.Path.{◌≡◌, refl}
use mathlib.Core.Bool.{true}
use mathlib.Core.List.{[], ◌∷◌}
use lib.IntN.{ℤ, pos, negsuc}
use Rattle.geometry.specs.declared.Point.{Point}
use Rattle.paths.specs.Tray.{TRAY, point_bytes, path_field, tag_of}

pub tray_is : TRAY ≡ 26112
tray_is = refl

abbrev point : ℤ → ℤ → ℕ → Point
point x y z = record { x = x; y = y; z = z }

-- (5,-1) with z -4; (0,0) with the greatest z, and with the least
minus_four : point_bytes (point (pos 5) (negsuc 0) 4294967292) ≡ 5 ∷ 0 ∷ 0 ∷ 0 ∷ 255 ∷ 255 ∷ 255 ∷ 255 ∷ 252 ∷ 255 ∷ 255 ∷ 255 ∷ []
unfolding point_bytes
minus_four = refl

greatest : point_bytes (point (pos 0) (pos 0) 2147483647) ≡ 0 ∷ 0 ∷ 0 ∷ 0 ∷ 0 ∷ 0 ∷ 0 ∷ 0 ∷ 255 ∷ 255 ∷ 255 ∷ 127 ∷ []
unfolding point_bytes
greatest = refl

least : point_bytes (point (pos 0) (pos 0) 2147483648) ≡ 0 ∷ 0 ∷ 0 ∷ 0 ∷ 0 ∷ 0 ∷ 0 ∷ 0 ∷ 0 ∷ 0 ∷ 0 ∷ 128 ∷ []
unfolding point_bytes
least = refl

-- an open path of two points: its tag, 24 and their bytes
line : path_field (tag_of true) (point (pos 1) (pos 2) 3 ∷ point (pos 4) (pos 5) 6 ∷ [])
    ≡ 7 ∷ 24 ∷ 0 ∷ 1 ∷ 0 ∷ 0 ∷ 0 ∷ 2 ∷ 0 ∷ 0 ∷ 0 ∷ 3 ∷ 0 ∷ 0 ∷ 0 ∷ 4 ∷ 0 ∷ 0 ∷ 0 ∷ 5 ∷ 0 ∷ 0 ∷ 0 ∷ 6 ∷ 0 ∷ 0 ∷ 0 ∷ []
unfolding path_field point_bytes
line = refl
