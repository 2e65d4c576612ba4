-- Every row of the starred table, by computing the definitions of the entry points, floats included; one declaration a row, for a declaration's steps are limited.
use mathlib.Core.Path.{◌≡◌, refl}
use mathlib.Core.List.{map}
use lib.Ieee.{to_signed, add, of_int, mul}
use Rattle.geometry.specs.Plane.{same_point, is_collinear, dot_product_three_points, area_triangle, area_outpt, pts_really_close, is_very_small_triangle, removable, strictly_within, segments_intersect}
use Rattle.geometry.specs.Box.{widen}
use Rattle.crossing.specs.Crossing.{fraction_of, crossing, coordinate_at, get_segment_intersect_pt}
use Rattle.job.specs.Field.{body_of, field_of}
use Rattle.rings.specs.Walk as walk
use Rattle.lone.specs.Lone.{removal_turn, do_split_op, split_turn, decide, act_of}
use Rattle.lone.specs.Path.{build_path64_from_outpt}
use Rattle.store.specs.Boxes.{set_sides, ring_box, boxed_at, boxed_to, all_boxed}
use Rattle.store.specs.Words.{cell, put}
use Rattle.store.specs.Value.{word_of}
use Rattle.audit.specs.Tests.{any_below}
use Rattle.reading.specs.Fill.{turn_of, run, fill_of}
use Rattle.reading.specs.Read.{read_of}
use Rattle.owners.specs.Owners.{ends_in}
use Rattle.visits.specs.Rings.{any_in}
use Rattle.rows.specs.Rows.{rows_of}
use Rattle.accepting.specs.Accept.{accept_of}
use Rattle.sorting.specs.Sorted.{sorted, swap_at, sink_rows}
use Rattle.converting.specs.Make.{outer_from, sorted_segments, pairs_of, convert_horz_segs_to_joins}
use Rattle.segments.specs.Update.{update_from, segments_of}
use Rattle.joins.specs.Resolve.{find_in}
use Rattle.joins.specs.Join.{joins_from, join_of, by_records, split_of, split_ring, move_first, fix_outrec_pts, name_all, new_out_rec, relink_of}
use Rattle.opening.specs.Start.{start_ring, start_to, start_rings}
use Rattle.opening.specs.Open.{stages_of, open_of}
use Rattle.acts.specs.Step.{answer_s, step_w}
use Rattle.acts.specs.Finish.{finish_record, finish_w}
use Rattle.paths.specs.Path.{point_at, path_at, path_if}
use Rattle.paths.specs.Tray.{point_bytes, path_field, fields_of}
use Rattle.paths.specs.Wrote.{build_paths64}
use Rattle.finishing.specs.Finish.{finish_rings}
use Rattle.finishing.specs.InOneCall.{finish_of}
use Rattle.order_bench.specs.Bench.{result, expected, bench}
use Rattle.order_bench.specs.Bench.{settings_only, empty, square, in_line, in_line_kept, listed, one_path, area_none, small_triangle, kept_triangle, knotted, joined_itself}

-- the definitions that a row computes with: `unfolding computing` opens them all
unfoldable computing : Unit {0}
unfolding result expected finish_of open_of stages_of accept_of read_of fill_of run turn_of field_of body_of rows_of ends_in find_in any_in walk.run any_below cell put convert_horz_segs_to_joins pairs_of sorted_segments segments_of update_from sorted swap_at sink_rows outer_from joins_from join_of by_records split_of split_ring move_first fix_outrec_pts name_all new_out_rec relink_of start_rings start_to start_ring all_boxed boxed_to boxed_at ring_box set_sides widen finish_rings finish_w finish_record answer_s step_w word_of same_point is_collinear dot_product_three_points area_triangle area_outpt pts_really_close is_very_small_triangle removable strictly_within segments_intersect fraction_of crossing coordinate_at get_segment_intersect_pt removal_turn do_split_op split_turn decide act_of build_path64_from_outpt point_at path_at path_if point_bytes path_field fields_of build_paths64 to_signed add of_int mul
computing = tt

settings_only_lem : result settings_only ≡ expected settings_only
unfolding computing
settings_only_lem = refl

empty_row : result empty ≡ expected empty
unfolding computing
empty_row = refl

square_row : result square ≡ expected square
unfolding computing
square_row = refl

in_line_lem : result in_line ≡ expected in_line
unfolding computing
in_line_lem = refl

in_line_kept_lem : result in_line_kept ≡ expected in_line_kept
unfolding computing
in_line_kept_lem = refl

listed_row : result listed ≡ expected listed
unfolding computing
listed_row = refl

one_path_lem : result one_path ≡ expected one_path
unfolding computing
one_path_lem = refl

area_none_lem : result area_none ≡ expected area_none
unfolding computing
area_none_lem = refl

small_triangle_lem : result small_triangle ≡ expected small_triangle
unfolding computing
small_triangle_lem = refl

kept_triangle_lem : result kept_triangle ≡ expected kept_triangle
unfolding computing
kept_triangle_lem = refl

knotted_row : result knotted ≡ expected knotted
unfolding computing
knotted_row = refl

joined_itself_lem : result joined_itself ≡ expected joined_itself
unfolding computing
joined_itself_lem = refl

-- the table
pub bench_holds : map result bench ≡ map expected bench
unfolding bench
bench_holds = cc (settings_only_lem, empty_row, square_row, in_line_lem, in_line_kept_lem, listed_row, one_path_lem, area_none_lem, small_triangle_lem, kept_triangle_lem, knotted_row, joined_itself_lem)
