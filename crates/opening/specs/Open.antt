-- Opening a job: document 01, "Opening a job reads and joins it". The stages in the table's order, each handing its words on.
use Rattle.std.specs.Prelude.{ℕ, ◌+◌, ◌-◌, ◌*◌, cond, List, ◌++◌, ltb, length, take, drop, replicate, Some, None, Result, Ok, Err}
use Rattle.job.specs.Limits as limit
use Rattle.job.specs.declared.refusal.Refusal.{Refusal}
use Rattle.job.specs.declared.refusal.Refusal.TheVariants as refusal
use Rattle.store.specs.Field.{BOXES, BLOCK, STATES, KEPT, LENGTH}
use Rattle.reading.specs.Fill as fill
use Rattle.accepting.specs.Accept.{accept_of}
use Rattle.converting.specs.Make.{Made, made, convert_horz_segs_to_joins}
use Rattle.joins.specs.Error.{row_of}
use Rattle.joins.specs.Join as join
use Rattle.joins.specs.Join.{process_horz_joins}
use Rattle.opening.specs.Start.{start_rings}

-- the answer, and the words that are left
pub data End : Type 0 where
  end : Result (Unit {0}) Refusal → List ℕ → End

-- process_horz_joins has ended: every ring is set at its start, unless a join was refused, by row 9 or 10
abbrev pub after_joins : join.JoinEnd → End
after_joins (join.end (Ok tt) w) = end (Ok tt) (start_rings w)
after_joins (join.end (Err e) w) = end (Err (row_of e)) w

-- convert_horz_segs_to_joins has ended: "then `process_horz_joins`" over the joins that there are now, unless that was row 10
abbrev pub after_segments : Made → End
after_segments (made (Some k) w js) = after_joins (process_horz_joins k js w)
after_segments (made None w js) = end (Err refusal.Full) w

-- rows 1 to 8; then "`convert_horz_segs_to_joins` over the job's segments, its joins after the job's own"
abbrev pub after_rows : fill.ReadEnd → End
after_rows (fill.end (Ok j) w ss js) = after_segments (convert_horz_segs_to_joins w j.segments ss js j.joins)
after_rows (fill.end (Err r) w ss js) = end (Err r) w

-- points of joins: two for each of the job's own, and two new points for each that is made, so that these are never more than all points
abbrev pub JOIN_POINTS : ℕ
JOIN_POINTS = 2 * limit.JOINS + limit.POINTS

-- all stages, over a live block that holds zeros; the two lists are the stage's own
unfoldable pub stages_of : List ℕ → List ℕ → End
stages_of bytes w = after_rows (accept_of bytes w (replicate limit.SEGMENTS 0) (replicate JOIN_POINTS 0))

-- a refusal leaves zeros only
abbrev pub settled : ℕ → End → End
settled n (end (Ok tt) w) = end (Ok tt) w
settled n (end (Err r) w) = end (Err r) (replicate n 0)

-- every column is zero, and so are the names, so that none is kept. The words of boxes are as found: those of records in use are written, and no others are read. So are the words behind the names, where copies of kept
-- states stand
abbrev pub cleared : List ℕ → List ℕ
cleared w = replicate BOXES 0 ++ (take (BLOCK - BOXES) (drop BOXES w) ++ (replicate STATES 0 ++ drop KEPT w))

-- opening, by the job's bytes and the lent work space: row 10, "tested first of all", then the stages
unfoldable pub open_of : List ℕ → List ℕ → End
open_of bytes w = cond (ltb (length w) LENGTH) (end (Err refusal.Full) (replicate (length w) 0)) (settled (length w) (stages_of bytes (cleared w)))
