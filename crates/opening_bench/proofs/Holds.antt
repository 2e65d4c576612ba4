-- Every row of the bench table, by computing the definition of opening.
use mathlib.Core.Path.{◌≡◌, refl}
use Rattle.rings.specs.Walk as walk
use Rattle.job.specs.Field.{body_of, field_of}
use Rattle.geometry.specs.Box.{widen}
use Rattle.store.specs.Boxes.{set_sides, ring_box, boxed_at, boxed_to, all_boxed}
use Rattle.store.specs.Words.{cell, put}
use Rattle.primitives.specs.Primitive.{duplicate_op}
use Rattle.audit.specs.Tests.{any_below}
use Rattle.reading.specs.Fill.{turn_of, run, fill_of}
use Rattle.reading.specs.Read.{read_of}
use Rattle.owners.specs.Owners.{ends_in}
use Rattle.visits.specs.Rings.{any_in}
use Rattle.rows.specs.Rows.{rows_of}
use Rattle.accepting.specs.Accept.{accept_of}
use Rattle.segments.specs.Level.{along_of, until, at_wall, at_stop, at_limit, wall_run, stop_run, limit_run}
use Rattle.sorting.specs.Sorted.{sorted}
use Rattle.segments.specs.Pair.{one_of, two_of}
use Rattle.segments.specs.Update.{walled_ends, free_ends, ends_of, headed, segment_through, claim_of, update_from, segments_of}
use Rattle.converting.specs.Make.{make_join, apart_of, join_pair, first_one, second_one, moved_pair, pair_of, inner_from, outer_from, sorted_segments, pairs_of, convert_horz_segs_to_joins}
use Rattle.joins.specs.Resolve.{find_in}
use Rattle.joins.specs.Join.{relink_of, new_out_rec, name_all, fix_outrec_pts, move_first, split_ring, split_of, merge_of, by_records, join_of, joins_from}
use Rattle.opening.specs.Start.{start_ring, start_to, start_rings}
use Rattle.opening.specs.Open.{stages_of, open_of}
use Rattle.opening_bench.specs.Bench.{result, RowsHold, bench, knotted, itself, overlapping, deep_copies, same_way, level_free, level_walled, equal_left, one_ring, nested, other_heights, three_in_line, both_ends, upright_spike, open_ring, own_join_first}

-- the definitions that a row computes with: `unfolding computing` opens them all
unfoldable computing : Unit {0}
unfolding result open_of stages_of accept_of read_of fill_of run turn_of field_of body_of rows_of ends_in find_in any_in walk.run any_below cell put duplicate_op along_of until at_wall at_stop at_limit wall_run stop_run limit_run sorted one_of two_of walled_ends free_ends ends_of headed segment_through claim_of update_from segments_of make_join apart_of join_pair first_one second_one moved_pair pair_of inner_from outer_from sorted_segments pairs_of convert_horz_segs_to_joins relink_of new_out_rec name_all fix_outrec_pts move_first split_ring split_of merge_of by_records join_of joins_from start_ring start_to start_rings all_boxed boxed_to boxed_at ring_box set_sides widen
computing = tt

knotted_holds : result knotted ≡ knotted.answer
unfolding computing knotted
knotted_holds = refl

itself_holds : result itself ≡ itself.answer
unfolding computing itself
itself_holds = refl

overlapping_holds : result overlapping ≡ overlapping.answer
unfolding computing overlapping
overlapping_holds = refl

deep_copies_holds : result deep_copies ≡ deep_copies.answer
unfolding computing deep_copies
deep_copies_holds = refl

same_way_holds : result same_way ≡ same_way.answer
unfolding computing same_way
same_way_holds = refl

level_free_holds : result level_free ≡ level_free.answer
unfolding computing level_free
level_free_holds = refl

level_walled_holds : result level_walled ≡ level_walled.answer
unfolding computing level_walled
level_walled_holds = refl

equal_left_holds : result equal_left ≡ equal_left.answer
unfolding computing equal_left
equal_left_holds = refl

one_ring_holds : result one_ring ≡ one_ring.answer
unfolding computing one_ring
one_ring_holds = refl

nested_holds : result nested ≡ nested.answer
unfolding computing nested
nested_holds = refl

other_heights_holds : result other_heights ≡ other_heights.answer
unfolding computing other_heights
other_heights_holds = refl

three_in_line_holds : result three_in_line ≡ three_in_line.answer
unfolding computing three_in_line
three_in_line_holds = refl

both_ends_holds : result both_ends ≡ both_ends.answer
unfolding computing both_ends
both_ends_holds = refl

upright_spike_holds : result upright_spike ≡ upright_spike.answer
unfolding computing upright_spike
upright_spike_holds = refl

open_ring_holds : result open_ring ≡ open_ring.answer
unfolding computing open_ring
open_ring_holds = refl

own_join_first_holds : result own_join_first ≡ own_join_first.answer
unfolding computing own_join_first
own_join_first_holds = refl

-- every row
pub bench_holds : RowsHold bench
bench_holds = (knotted_holds, (itself_holds, (overlapping_holds, (deep_copies_holds, (same_way_holds, (level_free_holds, (level_walled_holds, (equal_left_holds, (one_ring_holds, (nested_holds, (other_heights_holds, (three_in_line_holds, (both_ends_holds, (upright_spike_holds, (open_ring_holds, (own_join_first_holds, tt))))))))))))))))
