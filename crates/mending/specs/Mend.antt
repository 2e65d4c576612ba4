-- Document 02, Ask 14, "Mend the backward links": the mender, on a job's bytes. "The mender works on a job that passes everything up to 5. If every point is the next of exactly one point, it sets each prev to that
-- point. All other bytes are kept."
use Rattle.std.specs.Prelude.{ℕ, zero, suc, ◌+◌, ◌*◌, Bool, cond, not, List, eqb, replicate, Result, Ok, Err}
use Rattle.numbers.specs.Written.{put_le}
use Rattle.rings.specs.Count.{sum_to, one}
use Rattle.job.specs.Limits as limit
use Rattle.job.specs.Limits.{NONE}
use Rattle.job.specs.Field.{PREV_AT}
use Rattle.job.specs.declared.refusal.Refusal.{Refusal}
use Rattle.job.specs.declared.refusal.Refusal.TheVariants.{PastMending}
use Rattle.store.specs.Field.{BLOCK}
use Rattle.store.specs.Named.{points_of, next_of}
use Rattle.reading.specs.Fill as fill
use Rattle.reading.specs.Read.{read_of}
use Rattle.reading.specs.Standing.{value_at}
use Rattle.audit.specs.Tests.{any_below}
use Rattle.rows.specs.Found.{first_rows}

-- ---- what the mender leaves: its answer, and the job's bytes

pub record Mended : Type 0 where
  pub answer : Result (Unit {0}) Refusal
  pub bytes : List ℕ

abbrev pub mended : Result (Unit {0}) Refusal → List ℕ → Mended
mended a s = record { answer = a; bytes = s }

-- ---- the bytes

-- where point k's prev stands in the job
abbrev pub prev_at : ℕ → ℕ
prev_at k = value_at k + PREV_AT

-- the job with f k as prev of each point k below n; "All other bytes are kept"
abbrev pub with_prevs : (ℕ → ℕ) → ℕ → List ℕ → List ℕ
with_prevs f zero s = s
with_prevs f (suc k) s = put_le 2 (prev_at k) (f k) (with_prevs f k s)

-- ---- "If every point is the next of exactly one point"

-- how many of the first n points have k as their next
abbrev pub times_next : (ℕ → ℕ) → ℕ → ℕ → ℕ
times_next next n k = sum_to n (λ m. one k (next m))

-- 17: "some point is the next of none or of more than one"
unfoldable pub past_mending : List ℕ → Bool
past_mending w = any_below (points_of w) (λ k. not (eqb (times_next (next_of w) (points_of w) k) 1))

-- the last of the first n points whose next is k; none
abbrev pub last_before : (ℕ → ℕ) → ℕ → ℕ → ℕ
last_before next zero k = NONE
last_before next (suc m) k = cond (eqb (next m) k) m (last_before next m k)

-- "that point", where there is exactly one
unfoldable pub before_of : List ℕ → ℕ → ℕ
before_of w k = last_before (next_of w) (points_of w) k

-- ---- "tested after 5"

-- the verdict of rows 1 to 5, and the job's words
pub data Checked : Type 0 where
  checked : Result (Unit {0}) Refusal → List ℕ → Checked

abbrev pub checked_in : fill.ReadEnd → Checked
checked_in (fill.end (Ok j) w ss js) = checked (first_rows w ss j.segments js j.joins) w
checked_in (fill.end (Err r) w ss js) = checked (Err r) w

-- rows 1 to 5, read into words w
unfoldable pub checked_of : List ℕ → List ℕ → Checked
checked_of bytes w = checked_in (read_of bytes w (replicate limit.SEGMENTS 0) (replicate (2 * limit.JOINS) 0))

-- of a job that passes rows 1 to 5
unfoldable pub fix_of : List ℕ → List ℕ → Mended
fix_of bytes w = cond (past_mending w) (mended (Err PastMending) bytes) (mended (Ok tt) (with_prevs (before_of w) (points_of w) bytes))

-- "On any refusal of the mender nothing is altered"
abbrev pub after_rows : List ℕ → Checked → Mended
after_rows bytes (checked (Ok _) w) = fix_of bytes w
after_rows bytes (checked (Err r) w) = mended (Err r) bytes

-- the mender. Its words are its own, and no work space is lent
unfoldable pub mend_of : List ℕ → Mended
mend_of bytes = after_rows bytes (checked_of bytes (replicate BLOCK 0))
