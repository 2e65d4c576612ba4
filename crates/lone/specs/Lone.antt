-- The lone ring of document 01: what a step decides, from the points by value, and the step. It knows no store, numbers or limit.
use Rattle.std.specs.Prelude.{List, [], ◌∷◌, Bool, true, false, cond, not, ◌&&◌, ◌||◌, ℕ, zero, suc, ◌*◌, ℤ, pos, nat_abs, length, ltb, leb}
use Rattle.std.proofs.Math.Option.{Option}
use Rattle.std.specs.Bool.{beq}
use Rattle.std.specs.Int.Signed.{lt_z}
use Rattle.rings.specs.Circle.{spin, last_of, back, head_or, one_or_three, cut_circle, ahead, omap}
use Rattle.rings.specs.Place.{is_here}
use Rattle.rings.specs.Progress.{Due, validity, removal, triangle, split, done, at_validity, while_removing, at_split, Ring, tidy}
pub use Rattle.rings.specs.Progress.{is_done}
use Rattle.lone.specs.Act.{Act, stay, discard, drop_point, move_on, to_first, double, cut, apply, offcut, takes_points}

-- the geometry that the rules read, over points of a kind P. The real one is crate geometry's, in Plane.antt
pub record Geo (P : Type 0) : Type 0 where
  -- the removal loop's test, with the setting `preserve_collinear` in it: of the point before, the point and the point after
  pub removable : P → P → P → Bool
  pub segments_intersect : P → P → P → P → Bool
  -- `get_segment_intersect_pt`
  pub crossing_point : P → P → P → P → P
  -- `area_outpt`, doubled: a whole number
  pub area_outpt : List P → ℤ
  -- `area_triangle`, which is twice the area
  pub area_triangle : P → P → P → ℤ
  -- `is_very_small_triangle` of a ring of three: of the point before, the point and the point after
  pub is_very_small_triangle : P → P → P → Bool
  pub same_point : P → P → Bool

abbrev pub is_zero : ℕ → Bool
is_zero zero = true
is_zero (suc k) = false

-- a ring's points by value, from the first in walk order
abbrev pub from_first : {A : Type 0} → Ring A → List A
from_first R = spin R.first R.circle

-- "An offcut needs |area_triangle| at least 1.0, which is twice the area, and then a larger magnitude than the ring's area or its sign": area1 is the ring's area,
-- doubled, area2 the `area_triangle`
abbrev pub keeps_by : ℤ → ℤ → Bool
keeps_by area1 area2 = leb 1 (nat_abs area2) && (ltb (nat_abs area1) (2 * nat_abs area2) || beq (lt_z (pos 0) area2) (lt_z (pos 0) area1))

module _ {P : Type 0} (G : Geo P) where
  -- `is_valid_closed_path`: "Validity fails for no points, one, two, or three of which two differ by under 2 in both x and y"
  abbrev pub is_valid_closed_path : List P → Bool
  is_valid_closed_path [] = false
  is_valid_closed_path (a ∷ []) = false
  is_valid_closed_path (a ∷ b ∷ []) = false
  is_valid_closed_path (a ∷ b ∷ c ∷ []) = not (G.is_very_small_triangle c a b)
  is_valid_closed_path (a ∷ b ∷ c ∷ d ∷ r) = true

  -- a turn of the loop of `clean_collinear`, on a circle from the present place on, with the loop's start: "drops a point or moves on; it
  -- may then discard, or make the triangle test due"
  unfoldable pub removal_turn : List P → Option ℕ → Act P
  removal_turn [] s = discard while_removing
  removal_turn (x ∷ xs) s =
      cond (G.removable (last_of x xs) x (head_or x xs))
      (cond (is_valid_closed_path xs) drop_point (discard while_removing))
      (move_on (cond (is_here (omap (ahead (suc (length xs))) s)) triangle removal))

  -- "A split discards the ring if |area| < 2.0; 2.0 stays": the doubled area is under 4
  abbrev pub too_small : List P → Bool
  too_small c = ltb (nat_abs (G.area_outpt c)) 4

  -- the offcut (ip, x, next) of the ring c is kept
  abbrev pub keeps_offcut : List P → P → P → P → Bool
  keeps_offcut c ip x next = keeps_by (G.area_outpt c) (G.area_triangle ip x next)

  -- `do_split_op` at x, the present point, and what follows it in `fix_self_intersects`: the crossing is put in unless it is the point before or
  -- the second after; the loop ends if one or three points are left
  unfoldable pub do_split_op : P → List P → P → P → Act P
  do_split_op x xs next next_next =
      let c : List P = back (x ∷ xs) in
      let prev : P = last_of x xs in
      let ip : P = G.crossing_point prev x next next_next in
      let put : Bool = not (G.same_point ip prev || G.same_point ip next_next) in
      cond (too_small c) (discard at_split) (cut ip put (keeps_offcut c ip x next) (cond (one_or_three (cut_circle put ip c)) done split))

  -- a turn of the loop of `fix_self_intersects`, on a circle from the present place on, with how far ahead the first point and the loop's start
  -- are: "moves on, doubles, cuts or discards, and may end in done". "A doubling turn at the split loop's start point, or at the ring's first
  -- point, ends the loop"
  unfoldable pub split_turn : List P → ℕ → Option ℕ → Act P
  split_turn [] f s = discard at_split
  split_turn (x ∷ xs) f s =
      let prev : P = last_of x xs in
      let next : P = head_or x (spin 1 (x ∷ xs)) in
      let next_next : P = head_or x (spin 2 (x ∷ xs)) in
      let next_next_next : P = head_or x (spin 3 (x ∷ xs)) in
      let n : ℕ = suc (length xs) in
      cond (G.segments_intersect prev x next next_next)
      (cond (G.segments_intersect prev x next_next next_next_next)
      (double next_next (cond (is_zero f || is_here s) done split))
      (do_split_op x xs next next_next))
      (move_on (cond (is_zero (ahead n f) || is_here (omap (ahead n) s)) done split))

  -- the four kinds of step; a done ring stays
  unfoldable pub decide : List P → ℕ → Option ℕ → Due → Act P
  decide c f s validity = cond (is_valid_closed_path (spin f c)) (to_first removal) (discard at_validity)
  decide c f s removal = removal_turn c s
  decide c f s triangle = to_first (cond (one_or_three c) done split)
  decide c f s split = split_turn c f s
  decide c f s done = stay

  unfoldable pub act_of : Ring P → Act P
  act_of R = decide R.circle R.first R.start R.due

  -- the lone ring's step. Outside the two loops a ring remembers nothing but its first point: `tidy`
  unfoldable pub step_ring : Ring P → Ring P
  step_ring R = tidy (apply (λ (v : P). v) (act_of R) R)

  -- the offcut of that step, a lone ring at its start
  unfoldable pub offcut_ring : Ring P → Option (Ring P)
  offcut_ring R = offcut (λ (v : P). v) (act_of R) R

  -- the points that it takes; it takes a record where it has an offcut
  unfoldable pub takes_ring : Ring P → ℕ
  takes_ring R = takes_points (act_of R)
