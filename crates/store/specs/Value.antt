-- The settings and points by value, and a ring's points by value, as functions of the words.
use Rattle.std.specs.Prelude.{ℕ, ◌%◌, ◌/◌, Bool, List, map, eqb, ℤ, pos, nat_abs, ◌+ℤ◌}
use Rattle.numbers.specs.Raised.{coordinate}
use Rattle.job.specs.Limits as limit
use Rattle.geometry.specs.declared.Point.{Point}
use Rattle.store.specs.Field.{pt, ct, X, Y, Z, SETTINGS}
use Rattle.store.specs.Words.{Store, view}
use Rattle.store.specs.Sound.{ring_at}

-- the settings' bits: 0 `preserve_collinear`, 1 `reverse_solution`
abbrev pub preserve_collinear : Store → Bool
preserve_collinear s = eqb (s (ct SETTINGS) 0 % 2) 1

abbrev pub reverse_solution : Store → Bool
reverse_solution s = eqb (s (ct SETTINGS) 0 / 2 % 2) 1

-- a point by value: its words are its coordinates, raised by the largest one, and its z as it is
abbrev pub point_at : Store → ℕ → Point
point_at s k = record { x = coordinate limit.COORDINATE (s (pt X) k); y = coordinate limit.COORDINATE (s (pt Y) k); z = s (pt Z) k }

abbrev pub point_of : List ℕ → ℕ → Point
point_of w k = point_at (view w) k

-- back: the word of a coordinate
unfoldable pub word_of : ℤ → ℕ
word_of z = nat_abs (z +ℤ pos limit.COORDINATE)

-- the points of record i's ring by value, from the first in walk order
abbrev pub ring_points : Store → ℕ → List Point
ring_points s i = map (point_at s) (ring_at s i)
