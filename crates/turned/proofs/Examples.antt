-- One job from its bytes to the tray under either setting, by computing: an open ring with two neighbours at one place.
use Prim.Native.Nat.{ℕ}
use mathlib.Core.Path.{◌≡◌, refl}
use mathlib.Core.List.{List, [], ◌∷◌, ◌++◌}
use lib.ListN.{replicate}
use Rattle.job.specs.Field.{body_of, field_of}
use Rattle.rings.specs.Walk as walk
use Rattle.geometry.specs.Plane.{same_point}
use Rattle.lone.specs.Path.{build_path64_from_outpt}
use Rattle.store.specs.Field.{LENGTH}
use Rattle.geometry.specs.Box.{widen}
use Rattle.store.specs.Boxes.{set_sides, ring_box, boxed_at, boxed_to, all_boxed}
use Rattle.store.specs.Words.{cell, put}
use Rattle.audit.specs.Tests.{any_below}
use Rattle.reading.specs.Fill.{turn_of, run, fill_of}
use Rattle.reading.specs.Read.{read_of}
use Rattle.joins.specs.Resolve.{find_in}
use Rattle.joins.specs.Join.{joins_from}
use Rattle.owners.specs.Owners.{ends_in}
use Rattle.visits.specs.Rings.{any_in}
use Rattle.rows.specs.Rows.{rows_of}
use Rattle.accepting.specs.Accept.{accept_of}
use Rattle.sorting.specs.Sorted.{sorted}
use Rattle.segments.specs.Update.{update_from, segments_of}
use Rattle.converting.specs.Make.{outer_from, sorted_segments, pairs_of, convert_horz_segs_to_joins}
use Rattle.opening.specs.Start.{start_ring, start_to, start_rings}
use Rattle.opening.specs.Open.{stages_of, open_of}
use Rattle.acts.specs.Step.{answer_s, step_w}
use Rattle.acts.specs.Finish.{finish_record, finish_w}
use Rattle.paths.specs.Path.{point_at, path_at, path_if}
use Rattle.paths.specs.Tray.{point_bytes, path_field, fields_of}
use Rattle.paths.specs.Wrote.{build_paths64}
use Rattle.finishing.specs.Finish.{finish_rings}
use Rattle.finishing.specs.InOneCall.{finish_of}
use Rattle.turned.specs.Turned.{turned_round}

-- points 0,0,1 5,5,2 5,5,3 9,0,4 linked in that order, of record 0, which is open, first point 0, under these settings
abbrev job : ℕ → List ℕ
job settings =
    (1 ∷ 1 ∷ 0 ∷ settings ∷ [])
    ++ (2 ∷ 18 ∷ 0 ∷ 0 ∷ 0 ∷ 0 ∷ 0 ∷ 0 ∷ 0 ∷ 0 ∷ 0 ∷ 1 ∷ 0 ∷ 3 ∷ 0 ∷ 0 ∷ 0 ∷ 1 ∷ 0 ∷ 0 ∷ 0 ∷ [])
    ++ (2 ∷ 18 ∷ 0 ∷ 5 ∷ 0 ∷ 0 ∷ 0 ∷ 5 ∷ 0 ∷ 0 ∷ 0 ∷ 2 ∷ 0 ∷ 0 ∷ 0 ∷ 0 ∷ 0 ∷ 2 ∷ 0 ∷ 0 ∷ 0 ∷ [])
    ++ (2 ∷ 18 ∷ 0 ∷ 5 ∷ 0 ∷ 0 ∷ 0 ∷ 5 ∷ 0 ∷ 0 ∷ 0 ∷ 3 ∷ 0 ∷ 1 ∷ 0 ∷ 0 ∷ 0 ∷ 3 ∷ 0 ∷ 0 ∷ 0 ∷ [])
    ++ (2 ∷ 18 ∷ 0 ∷ 9 ∷ 0 ∷ 0 ∷ 0 ∷ 0 ∷ 0 ∷ 0 ∷ 0 ∷ 0 ∷ 0 ∷ 2 ∷ 0 ∷ 0 ∷ 0 ∷ 4 ∷ 0 ∷ 0 ∷ 0 ∷ [])
    ++ (3 ∷ 5 ∷ 0 ∷ 1 ∷ 255 ∷ 255 ∷ 0 ∷ 0 ∷ [])

-- 5,5,2 9,0,4 0,0,1, and a byte past the path
abbrev forth : List ℕ
forth =
    (7 ∷ 36 ∷ 0 ∷ [])
    ++ (5 ∷ 0 ∷ 0 ∷ 0 ∷ 5 ∷ 0 ∷ 0 ∷ 0 ∷ 2 ∷ 0 ∷ 0 ∷ 0 ∷ [])
    ++ (9 ∷ 0 ∷ 0 ∷ 0 ∷ 0 ∷ 0 ∷ 0 ∷ 0 ∷ 4 ∷ 0 ∷ 0 ∷ 0 ∷ [])
    ++ (0 ∷ 0 ∷ 0 ∷ 0 ∷ 0 ∷ 0 ∷ 0 ∷ 0 ∷ 1 ∷ 0 ∷ 0 ∷ 0 ∷ [])
    ++ (0 ∷ [])

-- 0,0,1 9,0,4 5,5,3
abbrev back : List ℕ
back =
    (7 ∷ 36 ∷ 0 ∷ [])
    ++ (0 ∷ 0 ∷ 0 ∷ 0 ∷ 0 ∷ 0 ∷ 0 ∷ 0 ∷ 1 ∷ 0 ∷ 0 ∷ 0 ∷ [])
    ++ (9 ∷ 0 ∷ 0 ∷ 0 ∷ 0 ∷ 0 ∷ 0 ∷ 0 ∷ 4 ∷ 0 ∷ 0 ∷ 0 ∷ [])
    ++ (5 ∷ 0 ∷ 0 ∷ 0 ∷ 5 ∷ 0 ∷ 0 ∷ 0 ∷ 3 ∷ 0 ∷ 0 ∷ 0 ∷ [])
    ++ (0 ∷ [])

-- bit 1, and no other: under both settings of bit 0, and turned back
pub round : turned_round (job 0) ≡ job 2
round = refl

pub round_kept : turned_round (job 1) ≡ job 3
round_kept = refl

pub round_back : turned_round (job 2) ≡ job 0
round_back = refl

-- jobs without a settings byte stay
pub too_short : turned_round (1 ∷ 1 ∷ 0 ∷ []) ≡ 1 ∷ 1 ∷ 0 ∷ []
too_short = refl

-- the definitions that finishing computes with here: `unfolding computing` opens them all
unfoldable computing : Unit {0}
unfolding finish_of open_of stages_of accept_of read_of fill_of run turn_of field_of body_of rows_of ends_in find_in any_in walk.run any_below cell put convert_horz_segs_to_joins pairs_of sorted_segments segments_of update_from sorted outer_from joins_from start_rings start_to start_ring all_boxed boxed_to boxed_at ring_box set_sides widen finish_rings finish_w finish_record answer_s step_w same_point build_path64_from_outpt point_at path_at path_if point_bytes path_field fields_of build_paths64
computing = tt

-- in a tray that holds sevens
pub forward : (finish_of (job 0) (replicate LENGTH 0) (replicate 40 7)).tray ≡ forth
unfolding computing
forward = refl

pub reversed : (finish_of (turned_round (job 0)) (replicate LENGTH 0) (replicate 40 7)).tray ≡ back
unfolding computing
reversed = refl
