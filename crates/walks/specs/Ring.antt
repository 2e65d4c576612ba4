-- What a walk round a ring asks, and the tests of a ring by its points' values.
use Rattle.std.specs.Prelude.{ℕ, ◌≤◌, ◌<◌, ◌≢◌, Bool, false, List, [], ◌∷◌, map, length}
use Rattle.job.specs.Limits as limit
use Rattle.rings.specs.Count.{occ}
use Rattle.rings.specs.Whole.{Whole}
use Rattle.rings.specs.Table.{ring_from}
use Rattle.geometry.specs.declared.Point.{Point}
use Rattle.geometry.specs.Plane.{is_very_small_triangle}
use Rattle.store.specs.Field.{BLOCK, NONE}
use Rattle.store.specs.Words.{view}
use Rattle.store.specs.Named.{points_of, next_of, prev_of, ring_of}
use Rattle.store.specs.Good.{PointIn}
use Rattle.store.specs.Value.{point_of}

-- a is on a ring whose points are as a sound store has them
pub record OnRing (w : List ℕ) (a : ℕ) : Type 0 where
  pub long : BLOCK ≤ length w
  pub few : points_of w ≤ limit.POINTS
  pub whole : Whole (next_of w) (prev_of w) (points_of w) (ring_of w a)
  pub points_in_lem : (k : ℕ) → 0 < occ k (ring_of w a) → PointIn (view w) k

-- a is none, or on such a ring
pub record MaybeOnRing (w : List ℕ) (a : ℕ) : Type 0 where
  pub long : BLOCK ≤ length w
  pub ring : a ≢ NONE → OnRing w a

-- op and the point before it may be read
pub record Edge (w : List ℕ) (op : ℕ) : Type 0 where
  pub long : BLOCK ≤ length w
  pub few : points_of w ≤ limit.POINTS
  pub here : PointIn (view w) op
  pub before : PointIn (view w) (prev_of w op)

-- three points that may be read
pub record Neighbours (w : List ℕ) (p op n : ℕ) : Type 0 where
  pub long : BLOCK ≤ length w
  pub few : points_of w ≤ limit.POINTS
  pub one : PointIn (view w) p
  pub two : PointIn (view w) op
  pub three : PointIn (view w) n

-- the points of the ring that starts at a, by value
abbrev pub values_from : List ℕ → ℕ → List Point
values_from w a = map (point_of w) (ring_of w a)

-- the same, and nothing where a is none
abbrev pub values_of : List ℕ → ℕ → List Point
values_of w a = map (point_of w) (ring_from (next_of w) a)

-- `is_very_small_triangle` of the point that the circle starts at: the second after it is the one before it, and two of the three are really close.
-- One point alone is three times the same
abbrev pub is_very_small : List Point → Bool
is_very_small [] = false
is_very_small (a ∷ []) = is_very_small_triangle a a a
is_very_small (a ∷ b ∷ []) = false
is_very_small (a ∷ b ∷ c ∷ []) = is_very_small_triangle c a b
is_very_small (a ∷ b ∷ c ∷ d ∷ r) = false
