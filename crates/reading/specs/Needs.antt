-- What the functions of reading ask.
use Rattle.std.specs.Prelude.{ℕ, ◌+◌, ◌*◌, ◌^◌, ◌<◌, ◌≤◌, List, length}
use Rattle.job.specs.Limits.{POINTS, RECORDS, SEGMENTS, JOINS}
use Rattle.job.specs.Job.{Within}
use Rattle.job.specs.declared.Job.{Job}
use Rattle.job.specs.declared.field.Field.{Field}
use Rattle.job.specs.declared.field.Field.TheVariants.{Settings, Point, Record, Segment, Join}
use Rattle.store.specs.Field.{BLOCK}

-- room for every field that a job may have
pub record Space (w ss js : List ℕ) : Type 0 where
  pub words : BLOCK ≤ length w
  pub segments : SEGMENTS ≤ length ss
  pub joins : 2 * JOINS ≤ length js

-- a place is free for the field
abbrev pub Room : Field → Job → Type 0
Room (Settings bits) j = Unit {0}
Room (Point x y next prev rec z) j = j.points < POINTS
Room (Record flags owner first) j = j.records < RECORDS
Room (Segment p) j = j.segments < SEGMENTS
Room (Join a b) j = j.joins < JOINS

-- a field of n bytes that may be placed
pub record Placing (f : Field) (n : ℕ) (j : Job) (w ss js : List ℕ) : Type 0 where
  pub space : Space w ss js
  pub within : Within j
  pub room : Room f j
  pub far : j.at + n < 2 ^ 64
