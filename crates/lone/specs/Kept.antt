-- What every step keeps of a lone ring, from its start on; and the laws of the geometry that this leans on.
use Rattle.std.specs.Prelude.{◌≡◌, ◌⊎◌, false, ℕ, zero, suc, ◌≤◌, length}
use Rattle.std.proofs.Math.Option.{Option, none, some}
use Rattle.rings.specs.Progress.{Due, validity, removal, triangle, split, done, Ring}
use Rattle.lone.specs.Act.{Act, stay, discard, drop_point, move_on, to_first, double, cut}
use Rattle.lone.specs.Lone.{Geo}
use Rattle.lone.specs.Forest.{Forest, Every}

abbrev pub AtMost : ℕ → Option ℕ → Type 0
AtMost m none = Unit {0}
AtMost m (some k) = k ≤ m

-- the first point and the loop's start are on a circle of n points
abbrev pub OnCircle : ℕ → ℕ → Option ℕ → Type 0
OnCircle zero f s = (f ≤ 0) × AtMost 0 s
OnCircle (suc m) f s = (f ≤ m) × AtMost m s

abbrev pub PlacesOnRing : {A : Type 0} → Ring A → Type 0
PlacesOnRing R = OnCircle (length R.circle) R.first R.start

-- a removal turn has its start on the circle
abbrev pub HasStart : Due → Option ℕ → Type 0
HasStart validity s = Unit {0}
HasStart removal none = ⊥
HasStart removal (some k) = Unit {0}
HasStart triangle s = Unit {0}
HasStart split s = Unit {0}
HasStart done s = Unit {0}

-- what steps keep of a ring among n points
pub record Held {A : Type 0} (n : ℕ) (R : Ring A) : Type 0 where
  pub on_ring_lem : PlacesOnRing R
  pub has_start : HasStart R.due R.start
  pub short : length R.circle ≤ n

-- what steps keep of a forest of rings with at most lp points
pub record HeldIn {P X : Type 0} (lp : ℕ) (F : Forest (Ring P) X) : Type 0 where
  pub within : F.points ≤ lp
  pub every : Every (Held F.points) F.entries

-- where a split turn is due the circle has two points or at least four
abbrev pub SplitSize : Due → ℕ → Type 0
SplitSize validity n = Unit {0}
SplitSize removal n = Unit {0}
SplitSize triangle n = Unit {0}
SplitSize split n = (n ≡ 2) ⊎ (4 ≤ n)
SplitSize done n = Unit {0}

-- the points that a circle has where a step decides on an act
abbrev pub LongEnough : {W : Type 0} → Act W → ℕ → Type 0
LongEnough stay n = Unit {0}
LongEnough (discard y) n = Unit {0}
LongEnough drop_point n = 4 ≤ n
LongEnough (move_on d) n = 1 ≤ n
LongEnough (to_first d) n = Unit {0}
LongEnough (double v d) n = 4 ≤ n
LongEnough (cut v put off d) n = 4 ≤ n

-- the crossing test is false where the second edge ends at the first one's start, and where it is the first edge again: so rings of one, two
-- and three points cross nothing
pub record GeoLaws {P : Type 0} (G : Geo P) : Type 0 where
  pub back_to_start : (a b c : P) → G.segments_intersect a b c a ≡ false
  pub same_edge : (a b : P) → G.segments_intersect a b a b ≡ false
