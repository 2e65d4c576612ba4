-- The second loop of convert_horz_segs_to_joins: pairs of segments, their left points moved together, and a join of two new points.
use Rattle.std.specs.Prelude.{ℕ, zero, suc, ◌+◌, ◌*◌, Bool, true, false, cond, ◌||◌, not, List, map, eqb, ltb, get_or, set, Option, Some, None}
use Rattle.job.specs.Limits as limit
use Rattle.store.specs.Field.{NONE}
use Rattle.primitives.specs.Primitive.{Taken, taken, duplicate_op}
use Rattle.segments.specs.Level.{x_of, y_of}
use Rattle.segments.specs.Pair.{one_of, two_of}
use Rattle.sorting.specs.declared.HorzSegment.{HorzSegment}
use Rattle.sorting.specs.Sorted.{sorted}
use Rattle.segments.specs.Update.{segments_of}

-- ---- a join of two new points

-- the answer, the words, and the joins' points two by two
pub data Made : Type 0 where
  made : Option ℕ → List ℕ → List ℕ → Made

-- the second point was made: join number m is k and it
abbrev pub second_at : List ℕ → ℕ → ℕ → Taken → Made
second_at js m k (taken (Some j) x) = made (Some (m + 1)) x (set (set js (2 * m) k) (2 * m + 1) j)
second_at js m k (taken None x) = made None x js

abbrev pub first_at : List ℕ → ℕ → ℕ → Taken → Made
first_at js m b (taken (Some k) x) = second_at js m k (duplicate_op x b false)
first_at js m b (taken None x) = made None x js

-- a copy of a after it, a copy of b before it, and their join
unfoldable pub make_join : List ℕ → List ℕ → ℕ → ℕ → ℕ → Made
make_join w js m a b = first_at js m b (duplicate_op w a true)

-- ---- a pair

-- the answer, the words, the left points, the joins
pub data Out : Type 0 where
  out : Option ℕ → List ℕ → List ℕ → List ℕ → Out

abbrev pub with_lefts : List ℕ → Made → Out
with_lefts ls (made r w js) = out r w ls js

abbrev pub made_of : Out → Made
made_of (out r w ls js) = made r w js

-- the second begins where or after the first ends, or they run the same way, or the first begins where or after the second ends
unfoldable pub apart_of : List ℕ → List ℕ → List ℕ → List ℕ → ℕ → ℕ → Bool
apart_of w ls rs fs i j =
    not (ltb (x_of w (get_or ls j 0)) (x_of w (get_or rs i 0))) || (eqb (get_or fs j 0) (get_or fs i 0) || not (ltb (x_of w (get_or ls i 0)) (x_of w (get_or rs j 0))))

-- the left points moved: persistent. Forward, the copy after is the first's, and the copy before the second's; else the other way round
unfoldable pub join_pair : Bool → ℕ → ℕ → List ℕ → List ℕ → List ℕ → ℕ → ℕ → ℕ → Out
join_pair on a b w ls js m i j = with_lefts (set (set ls i a) j b) (cond on (make_join w js m a b) (make_join w js m b a))

-- where the left points of rows i and j come to
unfoldable pub first_one : List ℕ → List ℕ → List ℕ → ℕ → ℕ → ℕ
first_one w ls fs i j = one_of w (eqb (get_or fs i 0) 1) (y_of w (get_or ls i 0)) (get_or ls i 0) (get_or ls j 0)

unfoldable pub second_one : List ℕ → List ℕ → List ℕ → ℕ → ℕ → ℕ
second_one w ls fs i j = two_of w (eqb (get_or fs i 0) 1) (y_of w (get_or ls i 0)) (get_or ls i 0) (get_or ls j 0)

unfoldable pub moved_pair : List ℕ → List ℕ → List ℕ → List ℕ → ℕ → ℕ → ℕ → Out
moved_pair w ls fs js m i j = join_pair (eqb (get_or fs i 0) 1) (first_one w ls fs i j) (second_one w ls fs i j) w ls js m i j

unfoldable pub pair_of : List ℕ → List ℕ → List ℕ → ℕ → ℕ → List ℕ → List ℕ → ℕ → Out
pair_of rs fs js₀ i j w ls m = cond (apart_of w ls rs fs i j) (out (Some m) w ls js₀) (moved_pair w ls fs js₀ m i j)

-- ---- the loops

-- the rest, unless there was no room
abbrev pub and_then : (List ℕ → List ℕ → List ℕ → ℕ → Out) → Out → Out
and_then k (out (Some m) w ls js) = k w ls js m
and_then k (out None w ls js) = out None w ls js

-- segment i with f segments from j on, up to the first that is not valid
unfoldable pub inner_from : ℕ → List ℕ → List ℕ → ℕ → ℕ → List ℕ → List ℕ → List ℕ → ℕ → Out
inner_from zero rs fs i j w ls js m = out (Some m) w ls js
inner_from (suc f) rs fs i j w ls js m = cond (eqb (get_or rs j 0) NONE) (out (Some m) w ls js) (and_then (inner_from f rs fs i (j + 1)) (pair_of rs fs js i j w ls m))

-- segments i, i + 1, .., f of them, each with those after it, up to the first that is not valid
unfoldable pub outer_from : ℕ → List ℕ → List ℕ → ℕ → List ℕ → List ℕ → List ℕ → ℕ → Out
outer_from zero rs fs i w ls js m = out (Some m) w ls js
outer_from (suc f) rs fs i w ls js m = cond (eqb (get_or rs i 0) NONE) (out (Some m) w ls js) (and_then (outer_from f rs fs (i + 1)) (inner_from f rs fs i (i + 1) w ls js m))

-- ---- the whole

-- the job's n segments, by their points ps, sorted
unfoldable pub sorted_segments : List ℕ → ℕ → List ℕ → List HorzSegment
sorted_segments w n ps = sorted (segments_of w n ps)

unfoldable pub pairs_of : List HorzSegment → List ℕ → List ℕ → ℕ → Made
pairs_of R w js m = made_of (outer_from limit.SEGMENTS (map (λ (r : HorzSegment). r.right) R) (map (λ (r : HorzSegment). r.forward) R) 0 w (map (λ (r : HorzSegment). r.left) R) js m)

-- convert_horz_segs_to_joins: the joins are added to the m that there are
unfoldable pub convert_horz_segs_to_joins : List ℕ → ℕ → List ℕ → List ℕ → ℕ → Made
convert_horz_segs_to_joins w n ps js m = pairs_of (sorted_segments w n ps) w js m
