-- Rings as rows of tables: the settings, one closed ring, and the paths that it and its offcuts end in. Document 01's bench rings, rings at the rules' edges, a ring
-- for each rule that a table of simple rings would not see, rings with depths, rules that only the ring itself shows, and open rings.
use Rattle.std.specs.Prelude.{Bool, true, false, List, [], ◌∷◌, ℕ, zero, suc, ◌+◌, ℤ, pos, neg_ℤ, length}
use Rattle.std.proofs.Math.Option.{Option, none, some}
use Rattle.job.specs.Limits as limit
use Rattle.geometry.specs.declared.Point.{Point}
use Rattle.rings.specs.Progress.{Discard, at_validity, while_removing, at_split, Ring, at_start}
use Rattle.lone.specs.Lone.{from_first}
use Rattle.lone.specs.Forest.{Entry, left_open, left_closed, opening}
use Rattle.lone.specs.Plane.{plane, lone_ring}
use Rattle.lone.specs.Finish.{finish_forest}
use Rattle.lone.specs.Writing.{is_all_done, closed_paths, open_paths}
use Rattle.lone.specs.Path.{build_path64_from_outpt}

abbrev pub point : ℤ → ℤ → Point
point a b = record { x = a; y = b; z = 0 }

-- one that is nowhere left of or below the origin
abbrev pub pt : ℕ → ℕ → Point
pt a b = point (pos a) (pos b)

abbrev pub minus : ℕ → ℤ
minus n = neg_ℤ (pos n)

-- the two settings, the ring, and its paths
pub record Row : Type 0 where
  pub preserve : Bool
  pub reversed : Bool
  pub ring : List Point
  pub paths : List (List Point)

-- a row with settings 0
abbrev pub row : List Point → List (List Point) → Row
row ring paths = record { preserve = false; reversed = false; ring = ring; paths = paths }

-- one with bit 0
abbrev pub row_kept : List Point → List (List Point) → Row
row_kept ring paths = record { preserve = true; reversed = false; ring = ring; paths = paths }

-- what a row's forest ends in: whether all are done, and the paths, records ascending
pub record Outcome : Type 0 where
  pub finished : Bool
  pub paths : List (List Point)

-- the ring alone in a forest, finished in one call under the job's limits
unfoldable pub after : Row → List (Entry (Ring Point) (List Point))
after r = (finish_forest (lone_ring r.preserve) limit.POINTS limit.RECORDS (opening (left_closed (at_start r.ring) ∷ []) (length r.ring))).entries

unfoldable pub result : Row → Outcome
result r = record { finished = is_all_done (lone_ring r.preserve) (after r); paths = closed_paths (plane r.preserve) r.reversed (after r) }

abbrev pub expected : Row → Outcome
expected r = record { finished = true; paths = r.paths }

-- a square; with (5,0), which goes, or stays with bit 0; the listing's ring; with (0,20); with (0,10); two triangles
unfoldable pub bench : List Row
bench =
    row (pt 0 0 ∷ pt 10 0 ∷ pt 10 10 ∷ pt 0 10 ∷ []) ((pt 10 0 ∷ pt 10 10 ∷ pt 0 10 ∷ pt 0 0 ∷ []) ∷ [])
    ∷ row (pt 0 0 ∷ pt 5 0 ∷ pt 10 0 ∷ pt 10 10 ∷ pt 0 10 ∷ []) ((pt 10 0 ∷ pt 10 10 ∷ pt 0 10 ∷ pt 0 0 ∷ []) ∷ [])
    ∷ record { preserve = true; reversed = false; ring = pt 0 0 ∷ pt 5 0 ∷ pt 10 0 ∷ pt 10 10 ∷ pt 0 10 ∷ []; paths = (pt 5 0 ∷ pt 10 0 ∷ pt 10 10 ∷ pt 0 10 ∷ pt 0 0 ∷ []) ∷ [] }
    ∷ row (pt 0 0 ∷ pt 10 10 ∷ pt 10 0 ∷ pt 0 12 ∷ []) ((pt 5 5 ∷ pt 0 12 ∷ pt 0 0 ∷ []) ∷ (pt 10 10 ∷ pt 10 0 ∷ pt 5 5 ∷ []) ∷ [])
    ∷ row (pt 0 0 ∷ pt 10 10 ∷ pt 10 0 ∷ pt 0 20 ∷ []) ((pt 6 6 ∷ pt 0 20 ∷ pt 0 0 ∷ []) ∷ [])
    ∷ row (pt 0 0 ∷ pt 10 10 ∷ pt 10 0 ∷ pt 0 10 ∷ []) []
    ∷ row (pt 0 0 ∷ pt 1 1 ∷ pt 50 0 ∷ []) []
    ∷ row (pt 0 0 ∷ pt 2 0 ∷ pt 1 50 ∷ []) ((pt 2 0 ∷ pt 1 50 ∷ pt 0 0 ∷ []) ∷ [])
    ∷ []

-- rings at the rules' edges, with the Rust's own answers: the square reversed; an offcut larger than the ring's area but not than the doubled one; a
-- ring of area 2.0, which stays, and one of 1.5, which goes; the first of them is left with two points and no path; doubling at the loop's start, which
-- ends it, and elsewhere; a point in line after a cut, which stays
unfoldable pub edges : List Row
edges =
    record { preserve = false; reversed = true; ring = pt 0 0 ∷ pt 10 0 ∷ pt 10 10 ∷ pt 0 10 ∷ []; paths = (pt 0 0 ∷ pt 0 10 ∷ pt 10 10 ∷ pt 10 0 ∷ []) ∷ [] }
    ∷ row (pt 0 0 ∷ pt 10 10 ∷ pt 10 0 ∷ pt 0 16 ∷ []) ((pt 6 6 ∷ pt 0 16 ∷ pt 0 0 ∷ []) ∷ (pt 10 10 ∷ pt 10 0 ∷ pt 6 6 ∷ []) ∷ [])
    ∷ row (pt 1 2 ∷ pt 4 0 ∷ pt 0 1 ∷ pt 0 0 ∷ []) ((pt 1 2 ∷ pt 4 0 ∷ pt 0 0 ∷ []) ∷ [])
    ∷ row (pt 0 0 ∷ pt 2 1 ∷ pt 1 0 ∷ pt 0 4 ∷ []) []
    ∷ row (pt 3 5 ∷ pt 0 0 ∷ pt 6 4 ∷ pt 0 2 ∷ pt 4 0 ∷ []) ((pt 0 0 ∷ pt 6 4 ∷ pt 0 2 ∷ pt 4 0 ∷ pt 6 4 ∷ pt 3 5 ∷ []) ∷ [])
    ∷ row (pt 0 4 ∷ pt 3 1 ∷ pt 2 1 ∷ pt 3 3 ∷ pt 0 0 ∷ []) ((pt 3 3 ∷ pt 3 1 ∷ pt 2 1 ∷ pt 3 3 ∷ pt 0 0 ∷ pt 0 4 ∷ []) ∷ [])
    ∷ row (pt 3 2 ∷ pt 2 4 ∷ pt 3 0 ∷ pt 2 1 ∷ pt 1 4 ∷ []) ((pt 2 2 ∷ pt 3 0 ∷ pt 2 1 ∷ pt 1 4 ∷ []) ∷ [])
    ∷ []

-- ---- a ring for each rule, with the Rust's own answers. Another rule there ends otherwise

-- a doubling at the ring's first point ends the loop
abbrev pub doubled_at_first : Row
doubled_at_first = row (pt 2 0 ∷ pt 2 3 ∷ pt 0 1 ∷ pt 0 2 ∷ pt 3 0 ∷ pt 1 2 ∷ []) ((pt 0 1 ∷ pt 3 0 ∷ pt 1 2 ∷ pt 2 0 ∷ pt 3 0 ∷ pt 2 3 ∷ []) ∷ [])

-- the loop's start is kept through a cut that leaves it on the ring
abbrev pub start_kept : Row
start_kept = row_kept (pt 1 4 ∷ pt 2 0 ∷ pt 4 2 ∷ pt 1 3 ∷ pt 2 2 ∷ []) ((pt 1 2 ∷ pt 1 4 ∷ pt 1 3 ∷ pt 2 0 ∷ pt 4 2 ∷ []) ∷ [])

-- a start that was cut away is none: nothing meets it
abbrev pub start_cut_away : Row
start_cut_away = row (pt 1 4 ∷ pt 2 2 ∷ pt 0 1 ∷ pt 4 1 ∷ pt 0 4 ∷ []) []

-- the crossing is the second point after: no point is put in
abbrev pub crossing_after : Row
crossing_after = row_kept (pt 0 0 ∷ pt 1 3 ∷ pt 3 1 ∷ pt 0 1 ∷ []) ((pt 1 3 ∷ pt 3 1 ∷ pt 0 1 ∷ []) ∷ [])

-- the crossing is the point before: no point is put in
abbrev pub crossing_before : Row
crossing_before = row (pt 2 3 ∷ pt 0 2 ∷ pt 3 3 ∷ pt 0 0 ∷ pt 1 3 ∷ []) ((pt 3 3 ∷ pt 0 0 ∷ pt 0 2 ∷ []) ∷ [])

-- an offcut whose `area_triangle` is 1.0, the least that is kept
abbrev pub least_offcut : Row
least_offcut = row (pt 5 1 ∷ pt 0 4 ∷ pt 4 3 ∷ pt 2 4 ∷ []) ((pt 5 1 ∷ pt 0 4 ∷ pt 2 3 ∷ []) ∷ [])

-- an offcut that is not larger than the ring is kept for having its sign
abbrev pub same_sign : Row
same_sign = row (point (minus 2) (minus 3) ∷ point (pos 1) (minus 1) ∷ point (minus 3) (minus 2) ∷ point (minus 1) (minus 3) ∷ [])
    ((point (pos 1) (minus 1) ∷ point (minus 3) (minus 2) ∷ point (minus 1) (minus 2) ∷ []) ∷ [])

-- after a drop the removal loop's start is the point then present: else the last stray point is never met
abbrev pub start_after_drop : Row
start_after_drop = row (pt 2 0 ∷ pt 2 1 ∷ pt 3 2 ∷ pt 2 3 ∷ pt 2 0 ∷ []) []

-- and so the points before it are met again: (2,0), which lies in line once the spike is gone
abbrev pub start_moves_on : Row
start_moves_on = row (pt 0 4 ∷ pt 0 0 ∷ pt 2 0 ∷ pt 2 3 ∷ pt 2 0 ∷ pt 4 0 ∷ pt 4 4 ∷ []) ((pt 0 0 ∷ pt 4 0 ∷ pt 4 4 ∷ pt 0 4 ∷ []) ∷ [])

-- a first point that is dropped goes back by one
abbrev pub first_goes_back : Row
first_goes_back = row (pt 3 2 ∷ pt 3 0 ∷ pt 0 1 ∷ pt 3 3 ∷ []) ((pt 3 0 ∷ pt 0 1 ∷ pt 3 3 ∷ []) ∷ [])

-- a ring of area 1.5 goes at its split
abbrev pub area_under_two : Row
area_under_two = row (pt 0 0 ∷ pt 2 0 ∷ pt 2 3 ∷ pt 3 3 ∷ []) []

-- the crossing (-0.6, 1.2) drops toward zero, to (0, 1)
abbrev pub toward_zero : Row
toward_zero = row (point (pos 1) (minus 2) ∷ point (minus 1) (pos 2) ∷ point (minus 3) (pos 0) ∷ pt 1 2 ∷ []) []

-- with bit 0, too, a spike goes
abbrev pub spike_goes : Row
spike_goes = row_kept (point (minus 3) (minus 3) ∷ point (minus 3) (pos 1) ∷ point (minus 3) (minus 1) ∷ []) []

-- and so do equal neighbours
abbrev pub equals_go : Row
equals_go = row_kept (pt 3 1 ∷ pt 2 0 ∷ pt 2 2 ∷ pt 3 1 ∷ []) []

unfoldable pub rules : List Row
rules =
    doubled_at_first
    ∷ start_kept
    ∷ start_cut_away
    ∷ crossing_after
    ∷ crossing_before
    ∷ least_offcut
    ∷ same_sign
    ∷ start_after_drop
    ∷ start_moves_on
    ∷ first_goes_back
    ∷ area_under_two
    ∷ toward_zero
    ∷ spike_goes
    ∷ equals_go
    ∷ []

-- ---- depths, with the answers of the Rust under `using_z`

-- one with its z; the word of z -4
abbrev pub deep : ℕ → ℕ → ℕ → Point
deep a b c = record { x = pos a; y = pos b; z = c }

abbrev pub minus_four : ℕ
minus_four = 4294967292

-- the listing's ring: points keep their z, the crossing has 0 in both
abbrev pub deep_crossing : Row
deep_crossing =
    row (deep 0 0 1 ∷ deep 10 10 2 ∷ deep 10 0 3 ∷ deep 0 12 minus_four ∷ [])
    ((deep 5 5 0 ∷ deep 0 12 minus_four ∷ deep 0 0 1 ∷ []) ∷ (deep 10 10 2 ∷ deep 10 0 3 ∷ deep 5 5 0 ∷ []) ∷ [])

-- a crossing that drops onto an end of its edge: the end stays on the ring with its z, the offcut's point has 0
abbrev pub onto_an_end : Row
onto_an_end =
    row (deep 2 7 1 ∷ deep 8 1 2 ∷ deep 1 5 3 ∷ deep 5 3 4 ∷ deep 7 8 5 ∷ [])
    ((deep 8 1 2 ∷ deep 1 5 3 ∷ deep 5 3 4 ∷ []) ∷ (deep 7 8 5 ∷ deep 2 7 1 ∷ deep 5 3 0 ∷ []) ∷ [])

-- a doubling has the z of the point whose value it takes, not of the one it stands before
abbrev pub deep_doubling : Row
deep_doubling =
    row (deep 0 4 1 ∷ deep 3 1 2 ∷ deep 2 1 3 ∷ deep 3 3 4 ∷ deep 0 0 5 ∷ [])
    ((deep 3 3 4 ∷ deep 3 1 2 ∷ deep 2 1 3 ∷ deep 3 3 4 ∷ deep 0 0 5 ∷ deep 0 4 1 ∷ []) ∷ [])

-- equal neighbours, with bit 0 too: the removal pass leaves the last visited
abbrev pub equals_deep : Bool → Row
equals_deep b =
    record {
      preserve = b;
      reversed = false;
      ring = deep 0 0 1 ∷ deep 10 0 2 ∷ deep 10 0 3 ∷ deep 10 10 4 ∷ deep 0 10 5 ∷ deep 0 0 6 ∷ [];
      paths = (deep 10 0 3 ∷ deep 10 10 4 ∷ deep 0 10 5 ∷ deep 0 0 6 ∷ []) ∷ [];
    }

unfoldable pub depths : List Row
depths = deep_crossing ∷ onto_an_end ∷ deep_doubling ∷ equals_deep false ∷ equals_deep true ∷ []

-- a line, forward or reversed, and its path
pub record PathRow : Type 0 where
  pub reversed : Bool
  pub line : List Point
  pub path : Option (List Point)

abbrev pub path_row : Bool → List Point → List Point → PathRow
path_row rev line path = record { reversed = rev; line = line; path = some path }

unfoldable pub path_result : PathRow → Option (List Point)
path_result r = build_path64_from_outpt (plane false) r.reversed true r.line

-- of equal neighbours the first walked stays, which is another one the other way round; a last point equal to the first stays with its z, unless it follows one that is equal
unfoldable pub lines : List PathRow
lines =
    path_row false (deep 0 0 1 ∷ deep 5 5 2 ∷ deep 5 5 3 ∷ deep 9 0 4 ∷ []) (deep 5 5 2 ∷ deep 9 0 4 ∷ deep 0 0 1 ∷ [])
    ∷ path_row true (deep 0 0 1 ∷ deep 5 5 2 ∷ deep 5 5 3 ∷ deep 9 0 4 ∷ []) (deep 0 0 1 ∷ deep 9 0 4 ∷ deep 5 5 3 ∷ [])
    ∷ path_row false (deep 0 0 1 ∷ deep 5 5 2 ∷ deep 9 0 3 ∷ deep 0 0 4 ∷ []) (deep 5 5 2 ∷ deep 9 0 3 ∷ deep 0 0 4 ∷ [])
    ∷ path_row false (deep 5 5 1 ∷ deep 5 5 2 ∷ deep 9 0 3 ∷ []) (deep 5 5 2 ∷ deep 9 0 3 ∷ deep 5 5 1 ∷ [])
    ∷ []

-- ---- rules that no path shows, only what the ring itself is in the end, how many steps it took and which rule discarded it

-- a lone ring alone, with settings 0: its points, the steps until it is done, its points then from the first, and the rule that discarded it, if any
pub record LoneRow : Type 0 where
  pub ring : List Point
  pub steps : ℕ
  pub left : List Point
  pub why : Option Discard

abbrev pub lone_row : List Point → ℕ → List Point → Option Discard → LoneRow
lone_row ring steps left why = record { ring = ring; steps = steps; left = left; why = why }

-- steps until it is done, over: whether it is; f: more than are needed
abbrev pub goes_on : ℕ → Bool → ℕ → Ring Point → LoneRow
goes_on zero over n R = lone_row [] n (from_first R) R.why
goes_on (suc f) true n R = lone_row [] n (from_first R) R.why
goes_on (suc f) false n R = goes_on f ((lone_ring false).over ((lone_ring false).next R)) (suc n) ((lone_ring false).next R)

unfoldable pub lone_result : LoneRow → LoneRow
lone_result r = lone_row r.ring (goes_on 100 false 0 (at_start r.ring)).steps (goes_on 100 false 0 (at_start r.ring)).left (goes_on 100 false 0 (at_start r.ring)).why

-- three points of which two are close, and two points, fail the validity test
abbrev pub three_close : LoneRow
three_close = lone_row (pt 0 0 ∷ pt 1 1 ∷ pt 50 0 ∷ []) 1 [] (some at_validity)

abbrev pub two_points : LoneRow
two_points = lone_row (pt 0 0 ∷ pt 5 5 ∷ []) 1 [] (some at_validity)

-- three points end at the triangle test
abbrev pub three_points : LoneRow
three_points = lone_row (pt 0 0 ∷ pt 2 0 ∷ pt 1 50 ∷ []) 5 (pt 0 0 ∷ pt 2 0 ∷ pt 1 50 ∷ []) none

-- a cut to three points ends the loop
abbrev pub cut_to_three : LoneRow
cut_to_three = lone_row (pt 0 0 ∷ pt 10 10 ∷ pt 10 0 ∷ pt 0 12 ∷ []) 8 (pt 0 0 ∷ pt 5 5 ∷ pt 0 12 ∷ []) none

-- a cut to two does not
abbrev pub cut_to_two : LoneRow
cut_to_two = lone_row (point (pos 0) (minus 5) ∷ pt 2 1 ∷ pt 0 1 ∷ pt 1 7 ∷ []) 9 (pt 1 7 ∷ pt 0 1 ∷ []) none

-- a drop that leaves three close points discards
abbrev pub drop_discards : LoneRow
drop_discards = lone_row (pt 2 0 ∷ pt 2 1 ∷ pt 3 2 ∷ pt 2 3 ∷ pt 2 0 ∷ []) 6 [] (some while_removing)

-- a split discards a ring of area 1.5
abbrev pub split_discards : LoneRow
split_discards = lone_row (pt 0 0 ∷ pt 2 1 ∷ pt 1 0 ∷ pt 0 4 ∷ []) 8 [] (some at_split)

unfoldable pub lone_rows : List LoneRow
lone_rows = three_close ∷ two_points ∷ three_points ∷ cut_to_three ∷ cut_to_two ∷ drop_discards ∷ split_discards ∷ []

-- ---- open rings: whether paths are reversed, the ring, and its path, if it has one

pub record OpenRow : Type 0 where
  pub reversed : Bool
  pub ring : List Point
  pub paths : List (List Point)

abbrev pub open_row : Bool → List Point → List (List Point) → OpenRow
open_row reversed ring paths = record { reversed = reversed; ring = ring; paths = paths }

-- the open ring and then the listing's closed one, finished in one call
unfoldable pub open_after : OpenRow → List (Entry (Ring Point) (List Point))
open_after r =
    (finish_forest (lone_ring false) limit.POINTS limit.RECORDS
    (opening (left_open r.ring ∷ left_closed (at_start (pt 0 0 ∷ pt 10 10 ∷ pt 10 0 ∷ pt 0 12 ∷ [])) ∷ []) (length r.ring + 4))).entries

unfoldable pub open_result : OpenRow → Outcome
open_result r = record { finished = is_all_done (lone_ring false) (open_after r); paths = open_paths (plane false) r.reversed (open_after r) }

abbrev pub open_expected : OpenRow → Outcome
open_expected r = record { finished = true; paths = r.paths }

-- one point has no path; two have one, in either direction, unless they are equal; three have, even where a closed ring would be too small; a point in line stays; neighbouring equals are dropped
unfoldable pub opens : List OpenRow
opens =
    open_row false (pt 3 4 ∷ []) []
    ∷ open_row false (pt 0 0 ∷ pt 5 1 ∷ []) ((pt 5 1 ∷ pt 0 0 ∷ []) ∷ [])
    ∷ open_row true (pt 0 0 ∷ pt 5 1 ∷ []) ((pt 0 0 ∷ pt 5 1 ∷ []) ∷ [])
    ∷ open_row false (pt 2 2 ∷ pt 2 2 ∷ []) []
    ∷ open_row false (pt 0 0 ∷ pt 1 1 ∷ pt 50 0 ∷ []) ((pt 1 1 ∷ pt 50 0 ∷ pt 0 0 ∷ []) ∷ [])
    ∷ open_row true (pt 0 0 ∷ pt 1 1 ∷ pt 50 0 ∷ []) ((pt 0 0 ∷ pt 50 0 ∷ pt 1 1 ∷ []) ∷ [])
    ∷ open_row false (pt 0 0 ∷ pt 5 0 ∷ pt 10 0 ∷ []) ((pt 5 0 ∷ pt 10 0 ∷ pt 0 0 ∷ []) ∷ [])
    ∷ open_row false (pt 0 0 ∷ pt 7 7 ∷ pt 7 7 ∷ []) ((pt 7 7 ∷ pt 0 0 ∷ []) ∷ [])
    ∷ []
