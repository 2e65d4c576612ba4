-- The first loop of convert_horz_segs_to_joins: each of the job's segments is run to both sides, headed, and struck out where its left point is taken.
use Rattle.std.specs.Prelude.{ℕ, zero, suc, ◌+◌, ◌%◌, ◌/◌, Bool, true, false, cond, List, eqb, ltb, get_or, set, replicate}
use Rattle.job.specs.Limits as limit
use Rattle.store.specs.Field.{NONE}
use Rattle.store.specs.Named.{next_of, first_of, flags_of}
use Rattle.joins.specs.Resolve.{home_of}
use Rattle.segments.specs.declared.level.Ends.{Ends}
use Rattle.sorting.specs.declared.HorzSegment.{HorzSegment}
use Rattle.sorting.specs.Sorted.{LAST}
use Rattle.segments.specs.Level.{x_of, y_of, wall_run, stop_run}

-- bit 1 of a record's flags: it has a front edge
abbrev pub has_front : List ℕ → ℕ → Bool
has_front w i = eqb (flags_of w i / 2 % 2) 1

-- op_p and op_n, the ends of the level run through op. With a front edge the walls are the ring's first point and its next
unfoldable pub walled_ends : List ℕ → ℕ → ℕ → ℕ → Ends
walled_ends w op y i = record { back = wall_run w false (next_of w (first_of w i)) y op; ahead = wall_run w true (first_of w i) y op }

-- without one: back as far as op itself, then on as far as that end
unfoldable pub free_ends : List ℕ → ℕ → ℕ → Ends
free_ends w op y = record { back = stop_run w false op y op; ahead = stop_run w true (stop_run w false op y op) y op }

unfoldable pub ends_of : List ℕ → ℕ → ℕ → Ends
ends_of w op i = cond (has_front w i) (walled_ends w op (y_of w op) i) (free_ends w op (y_of w op))

-- a valid segment: its key in the sort is its left x
abbrev pub valid : List ℕ → ℕ → ℕ → ℕ → HorzSegment
valid w l r f = record { key = x_of w l; left = l; right = r; forward = f }

-- one that is not: its key is above every x
abbrev pub invalid : ℕ → ℕ → HorzSegment
invalid l f = record { key = LAST; left = l; right = NONE; forward = f }

-- a place of the list that has no segment
abbrev pub blank : HorzSegment
blank = invalid NONE 0

-- set_horz_seg_heading_forward; a run of one x is no segment
unfoldable pub headed : List ℕ → ℕ → ℕ → ℕ → HorzSegment
headed w op p n = cond (eqb (x_of w p) (x_of w n)) (invalid op 1) (cond (ltb (x_of w p) (x_of w n)) (valid w p n 1) (valid w n p 0))

-- the level segment through op: the first loop's body up to the mark
unfoldable pub segment_through : List ℕ → ℕ → HorzSegment
segment_through w op = headed w op (ends_of w op (home_of w op)).back (ends_of w op (home_of w op)).ahead

-- a segment, and the marks of the left points that are taken
pub data Claim : Type 0 where
  claim : HorzSegment → List ℕ → Claim

-- a segment whose left point is taken is not valid; a valid one takes its left point
unfoldable pub claim_of : List ℕ → HorzSegment → Claim
claim_of ms s = cond (eqb s.right NONE) (claim s ms) (cond (eqb (get_or ms s.left 0) 0) (claim s (set ms s.left 1)) (claim (invalid s.left s.forward) ms))

-- a claimed segment is written at i; the others follow with the marks as they are then
abbrev pub on_claim : ℕ → List HorzSegment → (List ℕ → List HorzSegment → List HorzSegment) → Claim → List HorzSegment
on_claim i R k (claim s ms) = k ms (set R i s)

-- f segments from number i on, by their points ps, into the list R
unfoldable pub update_from : ℕ → ℕ → List ℕ → List ℕ → List ℕ → List HorzSegment → List HorzSegment
update_from zero i w ps ms R = R
update_from (suc f) i w ps ms R = on_claim i R (update_from f (i + 1) w ps) (claim_of ms (segment_through w (get_or ps i 0)))

-- the job's n segments, by their points ps, in their order: the first loop
unfoldable pub segments_of : List ℕ → ℕ → List ℕ → List HorzSegment
segments_of w n ps = update_from n 0 w ps (replicate limit.POINTS 0) (replicate limit.SEGMENTS blank)
