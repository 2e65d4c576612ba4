-- The definitions computed on document 01's listing: the crossing of its ring, and of the ring with (0,20) for (0,12).
use Rattle.std.proofs.Common.{◌≡◌, ℕ, true, false, [], ◌∷◌, pos, negsuc, refl}
use mathlib.Core.Option.{none, some}
use lib.Ieee.{binary64, of_bits, round, units, odd, climb, span, size, add, sum, mul, of_int, to_signed}
use Rattle.geometry.specs.declared.Point.{Point}
use Rattle.crossing.specs.declared.Crossing.TheVariants.{Inside}
use Rattle.geometry.specs.Plane.{same_point, is_collinear, cross_product_sign, dot_product_three_points, area_triangle, area_outpt, pts_really_close, is_very_small_triangle, removable, strictly_within, segments_intersect}
use Rattle.geometry.specs.Box.{widen, box_of}
use Rattle.crossing.specs.Crossing.{fraction_of, crossing, coordinate_at, get_segment_intersect_pt, crossing_point}

abbrev pt : ℕ → ℕ → Point
pt x y = record { x = pos x; y = pos y; z = 0 }

cross_listing : segments_intersect (pt 0 0) (pt 10 10) (pt 10 0) (pt 0 12) ≡ true
unfolding segments_intersect strictly_within
cross_listing = refl

at_listing : crossing_point (pt 0 0) (pt 10 10) (pt 10 0) (pt 0 12) ≡ pt 5 5
unfolding get_segment_intersect_pt crossing fraction_of coordinate_at round units odd climb span size add sum mul of_int to_signed
at_listing = refl

at_twenty : crossing_point (pt 0 0) (pt 10 10) (pt 10 0) (pt 0 20) ≡ pt 6 6
unfolding get_segment_intersect_pt crossing fraction_of coordinate_at round units odd climb span size add sum mul of_int to_signed
at_twenty = refl

-- both fractions, each rounded once: 6/11 of the first edge, 5/11 of the second
fractions_listing : crossing (pt 0 0) (pt 10 10) (pt 10 0) (pt 0 12) ≡ Inside (of_bits binary64 0x3fe1_745d_1745_d174) (of_bits binary64 0x3fdd_1745_d174_5d17)
unfolding crossing fraction_of round units odd climb span size of_bits
fractions_listing = refl

-- a half of the first edge, a quarter of the second
fractions_exact : crossing (pt 0 1) (pt 4 1) (pt 2 0) (pt 2 4) ≡ Inside (of_bits binary64 0x3fe0_0000_0000_0000) (of_bits binary64 0x3fd0_0000_0000_0000)
unfolding crossing fraction_of round units odd climb span size of_bits
fractions_exact = refl

-- ---- depths

abbrev deep : ℕ → ℕ → ℕ → Point
deep x y z = record { x = pos x; y = pos y; z = z }

-- "Equality of points ignores z"
same_place : same_point (deep 3 4 1) (deep 3 4 2) ≡ true
unfolding same_point
same_place = refl

another_place : same_point (deep 3 4 1) (deep 3 5 1) ≡ false
unfolding same_point
another_place = refl

-- "a crossing inside an edge gets 0", whatever its ends have
crossing_flat : crossing_point (deep 0 0 1) (deep 10 10 2) (deep 10 0 3) (deep 0 12 4) ≡ deep 5 5 0
unfolding get_segment_intersect_pt crossing fraction_of coordinate_at round units odd climb span size add sum mul of_int to_signed
crossing_flat = refl

-- inside is by the fraction: (5.29, 3.71) drops onto the first edge's start, and has 0 all the same
onto_the_start : crossing_point (deep 5 3 4) (deep 7 8 5) (deep 2 7 1) (deep 8 1 2) ≡ deep 5 3 0
unfolding get_segment_intersect_pt crossing fraction_of coordinate_at round units odd climb span size add sum mul of_int to_signed
onto_the_start = refl

-- at the first edge's start and at its end it is that point, z and all
at_the_start : get_segment_intersect_pt (deep 5 0 7) (deep 9 0 8) (deep 5 0 1) (deep 5 9 2) (deep 9 9 9) ≡ deep 5 0 7
unfolding get_segment_intersect_pt crossing fraction_of coordinate_at round units odd climb span size add sum mul of_int to_signed
at_the_start = refl

at_the_end : get_segment_intersect_pt (deep 1 0 7) (deep 5 0 8) (deep 5 0 1) (deep 5 9 2) (deep 9 9 9) ≡ deep 5 0 8
unfolding get_segment_intersect_pt crossing fraction_of coordinate_at round units odd climb span size add sum mul of_int to_signed
at_the_end = refl

-- parallel edges leave what was there
of_parallels : get_segment_intersect_pt (deep 0 0 7) (deep 5 0 8) (deep 0 1 1) (deep 5 1 2) (deep 9 9 9) ≡ deep 9 9 9
unfolding get_segment_intersect_pt crossing fraction_of coordinate_at round units odd climb span size add sum mul of_int to_signed
of_parallels = refl

-- ---- areas and tests

-- the listing's two doubled areas
area_piece : area_outpt (pt 5 5 ∷ pt 0 12 ∷ pt 0 0 ∷ []) ≡ pos 60
unfolding area_outpt
area_piece = refl

area_hole : area_outpt (pt 10 10 ∷ pt 10 0 ∷ pt 5 5 ∷ []) ≡ negsuc 49
unfolding area_outpt
area_hole = refl

area_hole_triangle : area_triangle (pt 5 5) (pt 10 10) (pt 10 0) ≡ negsuc 49
unfolding area_triangle
area_hole_triangle = refl

-- "Add (5,0): gone; kept with bit 0", and a spike is removed with either setting
gone : removable false (pt 0 0) (pt 5 0) (pt 10 0) ≡ true
unfolding removable is_collinear same_point dot_product_three_points
gone = refl

kept : removable true (pt 0 0) (pt 5 0) (pt 10 0) ≡ false
unfolding removable is_collinear same_point dot_product_three_points
kept = refl

spike : removable true (pt 0 0) (pt 10 0) (pt 5 0) ≡ true
unfolding removable is_collinear same_point dot_product_three_points
spike = refl

-- "triangle (0,0) (1,1) (50,0): nothing. (0,0) (2,0) (1,50): kept"
small : is_very_small_triangle (pt 0 0) (pt 1 1) (pt 50 0) ≡ true
unfolding is_very_small_triangle pts_really_close
small = refl

large : is_very_small_triangle (pt 0 0) (pt 2 0) (pt 1 50) ≡ false
unfolding is_very_small_triangle pts_really_close
large = refl

-- `cross_product_sign`: the way turns to one side, to the other, or goes on in line
turns_one_way : cross_product_sign (pt 0 0) (pt 10 0) (pt 10 10) ≡ pos 1
unfolding cross_product_sign
turns_one_way = refl

turns_the_other : cross_product_sign (pt 0 0) (pt 0 10) (pt 10 10) ≡ negsuc 0
unfolding cross_product_sign
turns_the_other = refl

goes_on : cross_product_sign (pt 0 0) (pt 5 5) (pt 10 10) ≡ pos 0
unfolding cross_product_sign
goes_on = refl

-- a box: each side is another point's, and top is the least y; no points have none
box : box_of (pt 3 9 ∷ pt 1 4 ∷ pt 7 5 ∷ pt 4 2 ∷ []) ≡ some (record { left = pos 1; top = pos 2; right = pos 7; bottom = pos 9 })
unfolding widen
box = refl

no_box : box_of [] ≡ none
no_box = refl
