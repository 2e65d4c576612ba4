-- How many bytes decide a job: as many as the longest job that can be accepted has, and one longest field more.
use Rattle.std.specs.Prelude.{ℕ, ◌+◌, ◌*◌}
use Rattle.job.specs.Limits.{POINTS, RECORDS, SEGMENTS, JOINS}
use Rattle.job.specs.Field.{size_of}
use Rattle.job.specs.declared.field.Kind.{Kind}
use Rattle.job.specs.declared.field.Kind.TheVariants as kind

-- a field's bytes: "tag one byte, length two bytes, value"
abbrev pub whole_of : Kind → ℕ
whole_of k = 3 + size_of k

-- settings once, and as many of each other kind as there may be: 4 + 2,048 × 21 + 512 × 8 + 256 × 5 + 256 × 7 = 50,180
abbrev pub LONGEST : ℕ
LONGEST = whole_of kind.Settings + POINTS * whole_of kind.Point + RECORDS * whole_of kind.Record + SEGMENTS * whole_of kind.Segment + JOINS * whole_of kind.Join

-- the field after it is refused for what its first 21 bytes say, or for their lack: 50,201
abbrev pub DECIDES : ℕ
DECIDES = LONGEST + whole_of kind.Point
