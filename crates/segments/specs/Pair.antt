-- A pair of level segments: their left points moved together. A segment's left point is strictly left of its right point, on the same ring.
use Rattle.std.specs.Prelude.{ℕ, Bool, not, List}
use Rattle.segments.specs.Level.{x_of, limit_run}

-- the first left point, on as far as the other's x; then the second, the other way, as far as the first has come
unfoldable pub one_of : List ℕ → Bool → ℕ → ℕ → ℕ → ℕ
one_of w on y l1 l2 = limit_run w on (x_of w l2) y l1

unfoldable pub two_of : List ℕ → Bool → ℕ → ℕ → ℕ → ℕ
two_of w on y l1 l2 = limit_run w (not on) (x_of w (one_of w on y l1 l2)) y l2
