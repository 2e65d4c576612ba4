-- The test of `may_change` by what a step has at hand: the words of the box, its act, the present point and its neighbours.
-- The code asks it between deciding a step and carrying it out (changes, `may_change`).
use Rattle.std.specs.Prelude.{ℕ, Bool, true, false, ◌&&◌, ◌||◌, eqb, pos}
use Rattle.std.specs.Int.Signed.{lt_z}
use Rattle.geometry.specs.declared.Point.{Point}
use Rattle.geometry.specs.Plane.{dot_product_three_points}
use Rattle.lone.specs.Act.{Act, stay, discard, drop_point, move_on, to_first, double, cut}
use Rattle.store.specs.declared.boxed.Sides.{Sides}
use Rattle.store.specs.Field.{pt, X, Y, NEXT, PREV}
use Rattle.store.specs.Words.{Store}
use Rattle.store.specs.Value.{point_at}

-- point k is on a side of the box of these words
abbrev pub side_word : Sides → Store → ℕ → Bool
side_word b s k = eqb b.left (s (pt X) k) || (eqb b.top (s (pt Y) k) || (eqb b.right (s (pt X) k) || eqb b.bottom (s (pt Y) k)))

-- the way from point p by point k to point n turns back at k
abbrev pub back_at : Store → ℕ → ℕ → ℕ → Bool
back_at s p k n = lt_z (dot_product_three_points (point_at s p) (point_at s k) (point_at s n)) (pos 0)

-- at point k of a ring
abbrev pub spike_at : Store → ℕ → Bool
spike_at s k = back_at s (s (pt PREV) k) k (s (pt NEXT) k)

-- point k or the next one is
abbrev pub either_at : Sides → Store → ℕ → Bool
either_at b s k = side_word b s k || side_word b s (s (pt NEXT) k)

-- an act on the ring whose present point is k
abbrev pub changes_at : Sides → Store → ℕ → Act Point → Bool
changes_at b s k stay = false
changes_at b s k (discard y) = true
changes_at b s k drop_point = side_word b s k && spike_at s k
changes_at b s k (move_on d) = false
changes_at b s k (to_first d) = false
changes_at b s k (double v d) = false
changes_at b s k (cut v put off d) = either_at b s k
