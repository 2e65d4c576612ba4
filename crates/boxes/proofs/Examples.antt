-- The acts that can make a box smaller do: a spike dropped, a ring discarded, a cut; and those that cannot. Computed, by the real geometry.
use mathlib.Core.Path.{◌≡◌, refl}
use mathlib.Core.Bool.{Bool, true, false}
use mathlib.Core.List.{List, [], ◌∷◌}
use mathlib.Core.Option.{Option, none, some}
use lib.Ieee.{to_signed, add, of_int, mul}
use lib.IntN.{ℤ, pos}
use Rattle.rings.specs.Progress.{Due, removal, split, Ring, at_start}
use Rattle.geometry.specs.declared.Point.{Point}
use Rattle.geometry.specs.declared.Rect.{Rect}
use Rattle.geometry.specs.Box.{widen, box_of}
use Rattle.geometry.specs.Plane.{same_point, is_collinear, dot_product_three_points, area_triangle, area_outpt, is_very_small_triangle, pts_really_close, removable, strictly_within, segments_intersect}
use Rattle.crossing.specs.Crossing.{fraction_of, crossing, coordinate_at, get_segment_intersect_pt}
use Rattle.lone.specs.Lone.{removal_turn, do_split_op, split_turn, decide, act_of, step_ring}
use Rattle.lone.specs.Plane.{plane}
use Rattle.boxes.specs.Acts.{spike, on_side, may_change, kept_box}

abbrev at : ℤ → ℤ → Point
at a b = record { x = a; y = b; z = 0 }

-- from x and y on, to x and y
abbrev rect : ℤ → ℤ → ℤ → ℤ → Option Rect
rect l t r b = some (record { left = l; top = t; right = r; bottom = b })

-- a ring in a loop at its present place, which is its first point and the loop's start
abbrev turning : Due → List Point → Ring Point
turning d c = record { circle = c; first = 0; start = some 0; due = d; why = none }

-- before a step, after it, and as it is kept
abbrev boxes : Ring Point → List (Option Rect)
boxes R = box_of R.circle ∷ box_of (step_ring (plane false) R).circle ∷ kept_box (box_of R.circle) R (act_of (plane false) R) ∷ []

-- whether the ring is walked again
abbrev walked : Ring Point → Bool
walked R = may_change (box_of R.circle) R.circle (act_of (plane false) R)

-- a spike out to 20, dropped
abbrev spiked : Ring Point
spiked = turning removal (at (pos 20) (pos 0) ∷ at (pos 5) (pos 0) ∷ at (pos 5) (pos 9) ∷ at (pos 0) (pos 0) ∷ [])

spiked_boxes : boxes spiked ≡ rect (pos 0) (pos 0) (pos 20) (pos 9) ∷ rect (pos 0) (pos 0) (pos 5) (pos 9) ∷ rect (pos 0) (pos 0) (pos 5) (pos 9) ∷ []
unfolding step_ring act_of decide removal_turn removable is_collinear same_point dot_product_three_points is_very_small_triangle pts_really_close widen kept_box spike on_side
spiked_boxes = refl

-- a spike that reaches no side, and a point in line on a side: both dropped, neither walked
abbrev short_spike : Ring Point
short_spike = turning removal (at (pos 4) (pos 1) ∷ at (pos 2) (pos 1) ∷ at (pos 9) (pos 9) ∷ at (pos 0) (pos 0) ∷ at (pos 3) (pos 1) ∷ [])

abbrev in_line_lem : Ring Point
in_line_lem = turning removal (at (pos 5) (pos 0) ∷ at (pos 9) (pos 0) ∷ at (pos 5) (pos 9) ∷ at (pos 0) (pos 0) ∷ [])

in_line_boxes : boxes in_line_lem ≡ rect (pos 0) (pos 0) (pos 9) (pos 9) ∷ rect (pos 0) (pos 0) (pos 9) (pos 9) ∷ rect (pos 0) (pos 0) (pos 9) (pos 9) ∷ []
unfolding step_ring act_of decide removal_turn removable is_collinear same_point dot_product_three_points is_very_small_triangle pts_really_close widen kept_box spike on_side
in_line_boxes = refl

drops_walked : (walked spiked ∷ walked short_spike ∷ walked in_line_lem ∷ []) ≡ true ∷ false ∷ false ∷ []
unfolding act_of decide removal_turn removable is_collinear same_point dot_product_three_points is_very_small_triangle pts_really_close widen spike on_side
drops_walked = refl

-- a thin triangle, discarded
discarded : boxes (at_start (at (pos 0) (pos 0) ∷ at (pos 1) (pos 1) ∷ at (pos 50) (pos 0) ∷ [])) ≡ rect (pos 0) (pos 0) (pos 50) (pos 1) ∷ none ∷ none ∷ []
unfolding step_ring act_of decide is_very_small_triangle pts_really_close widen kept_box
discarded = refl

-- the listing's ring: the crossing of (0,0) (10,10) and (10,0) (0,12), the two points on the right cut away
cut_away : boxes (turning split (at (pos 10) (pos 10) ∷ at (pos 10) (pos 0) ∷ at (pos 0) (pos 12) ∷ at (pos 0) (pos 0) ∷ []))
    ≡ rect (pos 0) (pos 0) (pos 10) (pos 12) ∷ rect (pos 0) (pos 0) (pos 5) (pos 12) ∷ rect (pos 0) (pos 0) (pos 5) (pos 12) ∷ []
unfolding step_ring act_of decide split_turn do_split_op segments_intersect strictly_within area_outpt area_triangle same_point get_segment_intersect_pt crossing fraction_of coordinate_at widen kept_box on_side to_signed add of_int mul
cut_away = refl

-- the four sides, and inside
abbrev on : ℤ → ℤ → Bool
on a b = on_side (rect (pos 1) (pos 2) (pos 7) (pos 9)) (at a b)

sides : (on (pos 1) (pos 5) ∷ on (pos 5) (pos 2) ∷ on (pos 7) (pos 5) ∷ on (pos 5) (pos 9) ∷ on (pos 2) (pos 7) ∷ []) ≡ true ∷ true ∷ true ∷ true ∷ false ∷ []
unfolding on_side
sides = refl
