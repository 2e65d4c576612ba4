-- Turns of reading that each place a point's field, in a row; and the test of one, as the code makes it.
use Rattle.std.specs.Prelude.{ℕ, ◌+◌, ◌<◌, ◌≡◌, Bool, false, cond, ◌&&◌, List, ltb, eqb, length, Ok}
use Rattle.numbers.specs.Bytes.{le}
use Rattle.job.specs.Limits.{POINTS}
use Rattle.job.specs.Coordinate.{word_at, depth_at}
use Rattle.job.specs.Field.{HEADER, Y_AT, NEXT_AT, PREV_AT, RECORD_AT, Z_AT, tag_of, length_of, size_of}
use Rattle.job.specs.Job.{past}
use Rattle.job.specs.declared.Job.{Job}
use Rattle.job.specs.declared.field.Field.TheVariants.{Point}
use Rattle.job.specs.declared.field.Kind.TheVariants as kind
use Rattle.reading.specs.Fill.{end, put_point, turn_of}

-- the bytes of a point's field
abbrev pub WHOLE_POINT : ℕ
WHOLE_POINT = HEADER + size_of kind.Point

-- whether the part begins with a point's field that a turn places: it is whole, its tag is in turn, and there is a place
unfoldable pub point_next : Job → List ℕ → Bool
point_next j s =
    cond (ltb (length s) WHOLE_POINT) false
    (eqb (tag_of s) 2 && eqb (length_of s) (size_of kind.Point) && ltb 0 j.last && ltb j.last 3 && ltb j.points POINTS)

-- point i by its value's bytes
unfoldable pub put_value : List ℕ → ℕ → List ℕ → List ℕ
put_value v i w = put_point i (word_at 0 v) (word_at Y_AT v) (le 2 NEXT_AT v) (le 2 PREV_AT v) (le 2 RECORD_AT v) (depth_at Z_AT v) w

-- past a point's field, whatever its numbers
abbrev pub past_point : Job → Job
past_point j = past (Point 0 0 0 0 0 0) WHOLE_POINT j

-- a turn from the state j and the words w to n and v, whatever the lists
pub record PointTurn (bytes : List ℕ) (j : Job) (w : List ℕ) (n : Job) (v : List ℕ) : Type 0 where
  pub here : j.at < length bytes
  pub is : (ss js : List ℕ) → end (Ok n) v ss js ≡ turn_of bytes j w ss js

-- none or more of them
pub data PointTurns (bytes : List ℕ) (j : Job) (w : List ℕ) : Job → List ℕ → Type 0 where
  none : PointTurns bytes j w j w
  more : (k : Job) (u : List ℕ) (n : Job) (v : List ℕ) → PointTurns bytes j w k u → PointTurn bytes k u n v → PointTurns bytes j w n v
