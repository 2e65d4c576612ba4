-- What reading a job carries from field to field.
use Rattle.std.specs.Prelude.{ℕ, ◌+◌, ◌≤◌}
use Rattle.job.specs.declared.Job.{Job}
use Rattle.job.specs.declared.field.Field.{Field}
use Rattle.job.specs.declared.field.Field.TheVariants.{Settings, Point, Record, Segment, Join}
use Rattle.job.specs.Limits.{POINTS, RECORDS, SEGMENTS, JOINS}

-- before the first field: nothing read, no tag seen (0), nothing counted, no setting
abbrev pub fresh : Job
fresh = record { at = 0; last = 0; bits = 0; points = 0; records = 0; segments = 0; joins = 0 }

-- past a field of `n` bytes: its tag is the last one, and it is counted
abbrev pub past : Field → ℕ → Job → Job
past (Settings bits) n j =
    record { at = j.at + n; last = 1; bits = bits; points = j.points; records = j.records; segments = j.segments; joins = j.joins }
past (Point x y next prev rec z) n j =
    record { at = j.at + n; last = 2; bits = j.bits; points = j.points + 1; records = j.records; segments = j.segments; joins = j.joins }
past (Record flags owner first) n j =
    record { at = j.at + n; last = 3; bits = j.bits; points = j.points; records = j.records + 1; segments = j.segments; joins = j.joins }
past (Segment p) n j =
    record { at = j.at + n; last = 4; bits = j.bits; points = j.points; records = j.records; segments = j.segments + 1; joins = j.joins }
past (Join a b) n j =
    record { at = j.at + n; last = 5; bits = j.bits; points = j.points; records = j.records; segments = j.segments; joins = j.joins + 1 }

-- no count above its limit
pub record Within (j : Job) : Type 0 where
  pub points : j.points ≤ POINTS
  pub records : j.records ≤ RECORDS
  pub segments : j.segments ≤ SEGMENTS
  pub joins : j.joins ≤ JOINS
