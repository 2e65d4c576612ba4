-- Document 01's listing in one piece, by computing: the job's bytes give the three lines; and the same job with `reverse_solution`.
use Prim.Native.Nat.{ℕ}
use mathlib.Core.Path.{◌≡◌, refl}
use mathlib.Core.List.{List, [], ◌∷◌, ◌++◌}
use lib.Ieee.{to_signed, add, of_int, mul}
use lib.ListN.{replicate}
use Rattle.rates.specs.declared.Rate.TheVariants.{NoRate}
use Rattle.geometry.specs.Plane.{same_point, is_collinear, dot_product_three_points, area_triangle, area_outpt, pts_really_close, is_very_small_triangle, removable, strictly_within, segments_intersect}
use Rattle.geometry.specs.Box.{widen}
use Rattle.crossing.specs.Crossing.{fraction_of, crossing, coordinate_at, get_segment_intersect_pt}
use Rattle.job.specs.Field.{body_of, field_of}
use Rattle.rings.specs.Walk as walk
use Rattle.lone.specs.Lone.{removal_turn, do_split_op, split_turn, decide, act_of}
use Rattle.lone.specs.Path.{build_path64_from_outpt}
use Rattle.store.specs.Field.{LENGTH}
use Rattle.store.specs.Boxes.{set_sides, ring_box, boxed_at, boxed_to, all_boxed}
use Rattle.store.specs.Words.{cell, put}
use Rattle.store.specs.Value.{word_of}
use Rattle.audit.specs.Tests.{any_below}
use Rattle.reading.specs.Fill.{turn_of, run, fill_of}
use Rattle.reading.specs.Read.{read_of}
use Rattle.joins.specs.Resolve.{find_in}
use Rattle.owners.specs.Owners.{ends_in}
use Rattle.visits.specs.Rings.{any_in}
use Rattle.rows.specs.Rows.{rows_of}
use Rattle.accepting.specs.Accept.{accept_of}
use Rattle.sorting.specs.Sorted.{sorted}
use Rattle.converting.specs.Make.{outer_from, sorted_segments, pairs_of, convert_horz_segs_to_joins}
use Rattle.segments.specs.Update.{update_from, segments_of}
use Rattle.joins.specs.Join.{joins_from}
use Rattle.opening.specs.Start.{start_ring, start_to, start_rings}
use Rattle.opening.specs.Open.{stages_of, open_of}
use Rattle.acts.specs.Step.{answer_s, step_w}
use Rattle.acts.specs.Finish.{finish_record, finish_w}
use Rattle.paths.specs.Path.{point_at, path_at, path_if}
use Rattle.paths.specs.Tray.{point_bytes, path_field, fields_of}
use Rattle.paths.specs.Wrote.{build_paths64}
use Rattle.finishing.specs.Finish.{finish_rings}
use Rattle.finishing.specs.InOneCall.{finish_of}
use Rattle.text.specs.Text.{digits}
use Rattle.listing.specs.Fields.{point_in}
use Rattle.listing.specs.Lines.{listing_of}
use Rattle.job_listing.specs.Cutlist.{cutlist_of}

-- "points (0,0) (10,10) (10,0) (0,12) linked in that order, all of record 0, closed, no owner, first point 0", under these settings
abbrev job : ℕ → List ℕ
job settings =
    (1 ∷ 1 ∷ 0 ∷ settings ∷ [])
    ++ (2 ∷ 18 ∷ 0 ∷ 0 ∷ 0 ∷ 0 ∷ 0 ∷ 0 ∷ 0 ∷ 0 ∷ 0 ∷ 1 ∷ 0 ∷ 3 ∷ 0 ∷ 0 ∷ 0 ∷ 0 ∷ 0 ∷ 0 ∷ 0 ∷ [])
    ++ (2 ∷ 18 ∷ 0 ∷ 10 ∷ 0 ∷ 0 ∷ 0 ∷ 10 ∷ 0 ∷ 0 ∷ 0 ∷ 2 ∷ 0 ∷ 0 ∷ 0 ∷ 0 ∷ 0 ∷ 0 ∷ 0 ∷ 0 ∷ 0 ∷ [])
    ++ (2 ∷ 18 ∷ 0 ∷ 10 ∷ 0 ∷ 0 ∷ 0 ∷ 0 ∷ 0 ∷ 0 ∷ 0 ∷ 3 ∷ 0 ∷ 1 ∷ 0 ∷ 0 ∷ 0 ∷ 0 ∷ 0 ∷ 0 ∷ 0 ∷ [])
    ++ (2 ∷ 18 ∷ 0 ∷ 0 ∷ 0 ∷ 0 ∷ 0 ∷ 12 ∷ 0 ∷ 0 ∷ 0 ∷ 0 ∷ 0 ∷ 2 ∷ 0 ∷ 0 ∷ 0 ∷ 0 ∷ 0 ∷ 0 ∷ 0 ∷ [])
    ++ (3 ∷ 5 ∷ 0 ∷ 0 ∷ 255 ∷ 255 ∷ 0 ∷ 0 ∷ [])

-- the same ring with z 1, 2, 3 and -4
abbrev deep_job : List ℕ
deep_job =
    (1 ∷ 1 ∷ 0 ∷ 0 ∷ [])
    ++ (2 ∷ 18 ∷ 0 ∷ 0 ∷ 0 ∷ 0 ∷ 0 ∷ 0 ∷ 0 ∷ 0 ∷ 0 ∷ 1 ∷ 0 ∷ 3 ∷ 0 ∷ 0 ∷ 0 ∷ 1 ∷ 0 ∷ 0 ∷ 0 ∷ [])
    ++ (2 ∷ 18 ∷ 0 ∷ 10 ∷ 0 ∷ 0 ∷ 0 ∷ 10 ∷ 0 ∷ 0 ∷ 0 ∷ 2 ∷ 0 ∷ 0 ∷ 0 ∷ 0 ∷ 0 ∷ 2 ∷ 0 ∷ 0 ∷ 0 ∷ [])
    ++ (2 ∷ 18 ∷ 0 ∷ 10 ∷ 0 ∷ 0 ∷ 0 ∷ 0 ∷ 0 ∷ 0 ∷ 0 ∷ 3 ∷ 0 ∷ 1 ∷ 0 ∷ 0 ∷ 0 ∷ 3 ∷ 0 ∷ 0 ∷ 0 ∷ [])
    ++ (2 ∷ 18 ∷ 0 ∷ 0 ∷ 0 ∷ 0 ∷ 0 ∷ 12 ∷ 0 ∷ 0 ∷ 0 ∷ 0 ∷ 0 ∷ 2 ∷ 0 ∷ 0 ∷ 0 ∷ 252 ∷ 255 ∷ 255 ∷ 255 ∷ [])
    ++ (3 ∷ 5 ∷ 0 ∷ 0 ∷ 255 ∷ 255 ∷ 0 ∷ 0 ∷ [])

-- closed 2 open 0
-- piece 3 60 5,5,0 0,12,0 0,0,0
-- hole 3 -50 10,10,0 10,0,0 5,5,0
abbrev text : List ℕ
text =
    (99 ∷ 108 ∷ 111 ∷ 115 ∷ 101 ∷ 100 ∷ 32 ∷ 50 ∷ 32 ∷ 111 ∷ 112 ∷ 101 ∷ 110 ∷ 32 ∷ 48 ∷ 10 ∷ [])
    ++ (112 ∷ 105 ∷ 101 ∷ 99 ∷ 101 ∷ 32 ∷ 51 ∷ 32 ∷ 54 ∷ 48 ∷ 32 ∷ 53 ∷ 44 ∷ 53 ∷ 44 ∷ 48 ∷ 32 ∷ 48 ∷ 44 ∷ 49 ∷ 50 ∷ 44 ∷ 48 ∷ 32 ∷ 48 ∷ 44 ∷ 48 ∷ 44 ∷ 48 ∷ 10 ∷ [])
    ++ (104 ∷ 111 ∷ 108 ∷ 101 ∷ 32 ∷ 51 ∷ 32 ∷ 45 ∷ 53 ∷ 48 ∷ 32 ∷ 49 ∷ 48 ∷ 44 ∷ 49 ∷ 48 ∷ 44 ∷ 48 ∷ 32 ∷ 49 ∷ 48 ∷ 44 ∷ 48 ∷ 44 ∷ 48 ∷ 32 ∷ 53 ∷ 44 ∷ 53 ∷ 44 ∷ 48 ∷ 10 ∷ [])

-- closed 2 open 0
-- piece 3 -60 0,0,0 0,12,0 5,5,0
-- hole 3 50 5,5,0 10,0,0 10,10,0
abbrev reversed_text : List ℕ
reversed_text =
    (99 ∷ 108 ∷ 111 ∷ 115 ∷ 101 ∷ 100 ∷ 32 ∷ 50 ∷ 32 ∷ 111 ∷ 112 ∷ 101 ∷ 110 ∷ 32 ∷ 48 ∷ 10 ∷ [])
    ++ (112 ∷ 105 ∷ 101 ∷ 99 ∷ 101 ∷ 32 ∷ 51 ∷ 32 ∷ 45 ∷ 54 ∷ 48 ∷ 32 ∷ 48 ∷ 44 ∷ 48 ∷ 44 ∷ 48 ∷ 32 ∷ 48 ∷ 44 ∷ 49 ∷ 50 ∷ 44 ∷ 48 ∷ 32 ∷ 53 ∷ 44 ∷ 53 ∷ 44 ∷ 48 ∷ 10 ∷ [])
    ++ (104 ∷ 111 ∷ 108 ∷ 101 ∷ 32 ∷ 51 ∷ 32 ∷ 53 ∷ 48 ∷ 32 ∷ 53 ∷ 44 ∷ 53 ∷ 44 ∷ 48 ∷ 32 ∷ 49 ∷ 48 ∷ 44 ∷ 48 ∷ 44 ∷ 48 ∷ 32 ∷ 49 ∷ 48 ∷ 44 ∷ 49 ∷ 48 ∷ 44 ∷ 48 ∷ 10 ∷ [])

-- closed 2 open 0
-- piece 3 60 5,5,0 0,12,-4 0,0,1
-- hole 3 -50 10,10,2 10,0,3 5,5,0
abbrev deep_text : List ℕ
deep_text =
    (99 ∷ 108 ∷ 111 ∷ 115 ∷ 101 ∷ 100 ∷ 32 ∷ 50 ∷ 32 ∷ 111 ∷ 112 ∷ 101 ∷ 110 ∷ 32 ∷ 48 ∷ 10 ∷ [])
    ++ (112 ∷ 105 ∷ 101 ∷ 99 ∷ 101 ∷ 32 ∷ 51 ∷ 32 ∷ 54 ∷ 48 ∷ 32 ∷ 53 ∷ 44 ∷ 53 ∷ 44 ∷ 48 ∷ 32 ∷ 48 ∷ 44 ∷ 49 ∷ 50 ∷ 44 ∷ 45 ∷ 52 ∷ 32 ∷ 48 ∷ 44 ∷ 48 ∷ 44 ∷ 49 ∷ 10 ∷ [])
    ++ (104 ∷ 111 ∷ 108 ∷ 101 ∷ 32 ∷ 51 ∷ 32 ∷ 45 ∷ 53 ∷ 48 ∷ 32 ∷ 49 ∷ 48 ∷ 44 ∷ 49 ∷ 48 ∷ 44 ∷ 50 ∷ 32 ∷ 49 ∷ 48 ∷ 44 ∷ 48 ∷ 44 ∷ 51 ∷ 32 ∷ 53 ∷ 44 ∷ 53 ∷ 44 ∷ 48 ∷ 10 ∷ [])

-- the definitions that a listing computes with: `unfolding computing` opens them all
unfoldable computing : Unit {0}
unfolding cutlist_of finish_of open_of stages_of accept_of read_of fill_of run turn_of field_of body_of rows_of ends_in find_in any_in walk.run any_below cell put convert_horz_segs_to_joins pairs_of sorted_segments segments_of update_from sorted outer_from joins_from start_rings start_to start_ring all_boxed boxed_to boxed_at ring_box set_sides widen finish_rings finish_w finish_record answer_s step_w word_of same_point is_collinear dot_product_three_points area_triangle area_outpt pts_really_close is_very_small_triangle removable strictly_within segments_intersect fraction_of crossing coordinate_at get_segment_intersect_pt removal_turn do_split_op split_turn decide act_of build_path64_from_outpt point_at path_at path_if point_bytes path_field fields_of build_paths64 to_signed add of_int mul listing_of digits point_in
computing = tt

-- in a tray that holds sevens
pub paper : cutlist_of NoRate (job 0) (replicate LENGTH 0) (replicate 96 7) ≡ text
unfolding computing
paper = refl

-- with bit 1 of the settings the piece is a piece and the hole a hole
pub paper_reversed : cutlist_of NoRate (job 2) (replicate LENGTH 0) (replicate 96 7) ≡ reversed_text
unfolding computing
paper_reversed = refl

-- depths go with their points, and the crossing has 0
pub paper_deep : cutlist_of NoRate deep_job (replicate LENGTH 0) (replicate 96 7) ≡ deep_text
unfolding computing
paper_deep = refl
