-- What a step does to a ring, over any kind of element: the acts, the ring after an act, its offcut, and the places that it takes.
-- The ring itself (`Ring`: the circle from the present place on, where the first point and the loop's start are, the step due) is of crate rings.
use Rattle.std.specs.Prelude.{[], ◌∷◌, ◌++◌, Bool, true, false, ℕ, length, take}
use Rattle.std.proofs.Math.Option.{Option, none, some}
use Rattle.rings.specs.Circle.{turn, spin, back, rest, cut_circle, cut_start, ahead, omap}
use Rattle.rings.specs.Progress.{Due, removal, Discard, Ring, gone, at_start}

-- what a step does; W is the value of a point newly made
pub data Act (W : Type 0) : Type 0 where
  -- nothing: the ring is done
  stay : Act W
  -- `dispose_out_pts`: the ring is done, without points; the rule that says so
  discard : Discard → Act W
  -- `dispose_out_pt` of the present point: the next one is the present place and the loop's start; the first point, if dropped, goes back by one
  drop_point : Act W
  -- to the next point; then the step due
  move_on : Due → Act W
  -- present place and loop's start are the first point; then the step due
  to_first : Due → Act W
  -- `duplicate_op`: a new point of that value before the present one; then the step due
  double : W → Due → Act W
  -- `do_split_op`: the present point and the next are cut away, the point before is the present place and the first point. The crossing; is
  -- it put in their place; is there an offcut; then the step due
  cut : W → Bool → Bool → Due → Act W

module _ {A W : Type 0} where
  -- the ring after an act; `a` gives the element newly made, of its value
  abbrev pub apply : (W → A) → Act W → Ring A → Ring A
  apply a stay R = R
  apply a (discard y) R = gone (some y)
  apply a drop_point R = record { circle = rest R.circle; first = ahead (length (rest R.circle)) R.first; start = some 0; due = removal; why = none }
  apply a (move_on d) R = record { circle = turn R.circle; first = ahead (length R.circle) R.first; start = omap (ahead (length R.circle)) R.start; due = d; why = none }
  apply a (to_first d) R = record { circle = spin R.first R.circle; first = 0; start = some 0; due = d; why = none }
  apply a (double v d) R = record { circle = R.circle ++ (a v ∷ []); first = R.first; start = R.start; due = d; why = none }
  apply a (cut v put off d) R = record { circle = cut_circle put (a v) (back R.circle); first = 0; start = cut_start put (length R.circle) R.start; due = d; why = none }

  -- the offcut: a ring at its start, its first point at the crossing, then the two points cut away
  abbrev pub offcut : (W → A) → Act W → Ring A → Option (Ring A)
  offcut b stay R = none
  offcut b (discard y) R = none
  offcut b drop_point R = none
  offcut b (move_on d) R = none
  offcut b (to_first d) R = none
  offcut b (double v d) R = none
  offcut b (cut v put false d) R = none
  offcut b (cut v put true d) R = some (at_start (b v ∷ take 2 R.circle))

module _ {W : Type 0} where
  -- "A step takes the points and records that the Rust's rule newly makes in it": the points
  abbrev pub takes_points : Act W → ℕ
  takes_points stay = 0
  takes_points (discard y) = 0
  takes_points drop_point = 0
  takes_points (move_on d) = 0
  takes_points (to_first d) = 0
  takes_points (double v d) = 1
  takes_points (cut v true true d) = 2
  takes_points (cut v true false d) = 1
  takes_points (cut v false true d) = 1
  takes_points (cut v false false d) = 0

  -- the value of the new point that goes into the ring itself, if any: it takes the first place
  abbrev pub rings_new : Act W → Option W
  rings_new stay = none
  rings_new (discard y) = none
  rings_new drop_point = none
  rings_new (move_on d) = none
  rings_new (to_first d) = none
  rings_new (double v d) = some v
  rings_new (cut v true off d) = some v
  rings_new (cut v false off d) = none

  -- the value of the new point of the offcut, if any: it takes the place after
  abbrev pub offcuts_new : Act W → Option W
  offcuts_new stay = none
  offcuts_new (discard y) = none
  offcuts_new drop_point = none
  offcuts_new (move_on d) = none
  offcuts_new (to_first d) = none
  offcuts_new (double v d) = none
  offcuts_new (cut v put true d) = some v
  offcuts_new (cut v put false d) = none
