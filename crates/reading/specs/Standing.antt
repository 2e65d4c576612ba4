-- Where a job's points stand among its bytes: after the settings, one after the other; and that reading takes their numbers from there.
use Rattle.std.specs.Prelude.{ℕ, ◌+◌, ◌*◌, ◌≤◌, ◌<◌, ◌≡◌, List, length}
use Rattle.numbers.specs.Bytes.{le}
use Rattle.job.specs.Coordinate.{word_at, depth_at}
use Rattle.job.specs.Field.{HEADER, Y_AT, NEXT_AT, PREV_AT, RECORD_AT, Z_AT, size_of}
use Rattle.job.specs.declared.Job.{Job}
use Rattle.job.specs.declared.field.Kind.TheVariants as kind
use Rattle.store.specs.Field.{pt, X, Y, NEXT, PREV, REC, Z}
use Rattle.store.specs.Words.{Store, view}

-- the field of point k begins here, and its value here
abbrev pub field_at : ℕ → ℕ
field_at k = (HEADER + size_of kind.Settings) + (HEADER + size_of kind.Point) * k

abbrev pub value_at : ℕ → ℕ
value_at k = field_at k + HEADER

-- the first n points of a store have the numbers that stand in the bytes
pub record AtBytes (bytes : List ℕ) (n : ℕ) (s : Store) : Type 0 where
  pub x : (k : ℕ) → k < n → s (pt X) k ≡ word_at (value_at k) bytes
  pub y : (k : ℕ) → k < n → s (pt Y) k ≡ word_at (value_at k + Y_AT) bytes
  pub next : (k : ℕ) → k < n → s (pt NEXT) k ≡ le 2 (value_at k + NEXT_AT) bytes
  pub prev : (k : ℕ) → k < n → s (pt PREV) k ≡ le 2 (value_at k + PREV_AT) bytes
  pub rec : (k : ℕ) → k < n → s (pt REC) k ≡ le 2 (value_at k + RECORD_AT) bytes
  pub z : (k : ℕ) → k < n → s (pt Z) k ≡ depth_at (value_at k + Z_AT) bytes

-- of a job that was read: each point's field is in the job, and the words have its numbers
pub record Standing (bytes : List ℕ) (j : Job) (w : List ℕ) : Type 0 where
  pub inside : (k : ℕ) → k < j.points → field_at (k + 1) ≤ length bytes
  pub numbers : AtBytes bytes j.points (view w)
