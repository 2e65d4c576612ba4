-- Which boxes meet a window: "edges counted as inside", "A window turned inside out meets nothing".
use Rattle.std.specs.Prelude.{Bool, not, ◌&&◌, ◌||◌, ℤ}
use Rattle.std.specs.Int.Signed.{le_z}
use Rattle.geometry.specs.declared.Rect.{Rect}

-- some place lies between a and b and between c and d, ends counted, where a is at most b: c is at most d, and neither ends before the other begins
abbrev pub overlap : ℤ → ℤ → ℤ → ℤ → Bool
overlap a b c d = le_z c d && (le_z a d && le_z c b)

unfoldable pub box_meets : Rect → Rect → Bool
box_meets b window = overlap b.left b.right window.left window.right && overlap b.top b.bottom window.top window.bottom

-- a window turned inside out, in x or in y: it ends before it begins
abbrev pub inside_out : Rect → Bool
inside_out window = not (le_z window.left window.right) || not (le_z window.top window.bottom)
