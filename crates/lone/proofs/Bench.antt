-- Every row of the tables, by computing the real definitions, floats included; where rows are long ones, one declaration a row, for a declaration's steps are limited.
use mathlib.Core.Path.{◌≡◌, refl}
use mathlib.Core.Bool.{true, false}
use mathlib.Core.List.{map}
use lib.Ieee.{to_signed, add, of_int, mul}
use Rattle.geometry.specs.Plane.{same_point, is_collinear, dot_product_three_points, area_triangle, area_outpt, pts_really_close, is_very_small_triangle, removable, strictly_within, segments_intersect}
use Rattle.crossing.specs.Crossing.{fraction_of, crossing, coordinate_at, get_segment_intersect_pt}
use Rattle.lone.specs.Lone.{removal_turn, do_split_op, split_turn, decide, act_of, step_ring, offcut_ring, takes_ring}
use Rattle.lone.specs.Path.{build_path64_from_outpt, outline}
use Rattle.lone.specs.Forest.{answer, step_forest}
use Rattle.lone.specs.Finish.{steps_on, finish_forest}
use Rattle.lone.specs.Order.{machine}
use Rattle.lone.specs.Bench.{result, expected, after, bench, edges, rules, depths, PathRow, path_result, lines, lone_result, lone_rows, open_after, open_result, open_expected, opens}
use Rattle.lone.specs.Bench.{doubled_at_first, start_kept, start_cut_away, crossing_after, crossing_before, least_offcut, same_sign, start_after_drop, start_moves_on, first_goes_back, area_under_two, toward_zero, spike_goes, equals_go}
use Rattle.lone.specs.Bench.{deep_crossing, onto_an_end, deep_doubling, equals_deep}

-- the definitions that a row computes with: `unfolding computing` opens them all
unfoldable computing : Unit {0}
unfolding result after path_result lone_result open_after open_result same_point is_collinear dot_product_three_points area_triangle area_outpt pts_really_close is_very_small_triangle removable strictly_within segments_intersect fraction_of crossing coordinate_at get_segment_intersect_pt removal_turn do_split_op split_turn decide act_of step_ring offcut_ring takes_ring build_path64_from_outpt outline answer step_forest steps_on finish_forest machine to_signed add of_int mul
computing = tt

pub bench_holds : map result bench ≡ map expected bench
unfolding computing bench
bench_holds = refl

pub edges_hold : map result edges ≡ map expected edges
unfolding computing edges
edges_hold = refl

-- ---- a ring for each rule

doubled_at_first_lem : result doubled_at_first ≡ expected doubled_at_first
unfolding computing
doubled_at_first_lem = refl

start_kept_lem : result start_kept ≡ expected start_kept
unfolding computing
start_kept_lem = refl

start_cut_away_lem : result start_cut_away ≡ expected start_cut_away
unfolding computing
start_cut_away_lem = refl

crossing_after_lem : result crossing_after ≡ expected crossing_after
unfolding computing
crossing_after_lem = refl

crossing_before_lem : result crossing_before ≡ expected crossing_before
unfolding computing
crossing_before_lem = refl

least_offcut_lem : result least_offcut ≡ expected least_offcut
unfolding computing
least_offcut_lem = refl

same_sign_lem : result same_sign ≡ expected same_sign
unfolding computing
same_sign_lem = refl

start_after_drop_lem : result start_after_drop ≡ expected start_after_drop
unfolding computing
start_after_drop_lem = refl

start_moves_on_lem : result start_moves_on ≡ expected start_moves_on
unfolding computing
start_moves_on_lem = refl

first_goes_back_lem : result first_goes_back ≡ expected first_goes_back
unfolding computing
first_goes_back_lem = refl

area_under_two_lem : result area_under_two ≡ expected area_under_two
unfolding computing
area_under_two_lem = refl

toward_zero_lem : result toward_zero ≡ expected toward_zero
unfolding computing
toward_zero_lem = refl

spike_goes_lem : result spike_goes ≡ expected spike_goes
unfolding computing
spike_goes_lem = refl

equals_go_lem : result equals_go ≡ expected equals_go
unfolding computing
equals_go_lem = refl

pub rules_hold : map result rules ≡ map expected rules
unfolding rules
rules_hold = cc (doubled_at_first_lem, start_kept_lem, start_cut_away_lem, crossing_after_lem, crossing_before_lem, least_offcut_lem, same_sign_lem, start_after_drop_lem, start_moves_on_lem, first_goes_back_lem, area_under_two_lem, toward_zero_lem, spike_goes_lem, equals_go_lem)

-- ---- depths

deep_crossing_lem : result deep_crossing ≡ expected deep_crossing
unfolding computing
deep_crossing_lem = refl

onto_an_end_lem : result onto_an_end ≡ expected onto_an_end
unfolding computing
onto_an_end_lem = refl

deep_doubling_lem : result deep_doubling ≡ expected deep_doubling
unfolding computing
deep_doubling_lem = refl

equals_deep_lem : result (equals_deep false) ≡ expected (equals_deep false)
unfolding computing
equals_deep_lem = refl

equals_deep_kept : result (equals_deep true) ≡ expected (equals_deep true)
unfolding computing
equals_deep_kept = refl

pub depths_hold : map result depths ≡ map expected depths
unfolding depths
depths_hold = cc (deep_crossing_lem, onto_an_end_lem, deep_doubling_lem, equals_deep_lem, equals_deep_kept)

pub lines_hold : map path_result lines ≡ map (λ (r : PathRow). r.path) lines
unfolding computing lines
lines_hold = refl

-- ---- what only the ring itself shows

pub lone_rows_hold : map lone_result lone_rows ≡ lone_rows
unfolding computing lone_rows
lone_rows_hold = refl

-- ---- open rings

pub opens_hold : map open_result opens ≡ map open_expected opens
unfolding computing opens
opens_hold = refl
