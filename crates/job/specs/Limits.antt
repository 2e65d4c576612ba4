-- The limits of a job, as `Job` names them: `limits_agree` proves that these are the code's.
use Rattle.std.specs.Prelude.{ℕ}

-- points, those made later included
abbrev pub POINTS : ℕ
POINTS = 2048

-- records, those made later included
abbrev pub RECORDS : ℕ
RECORDS = 512

-- tags 4 in the job
abbrev pub SEGMENTS : ℕ
SEGMENTS = 256

-- tags 5 in the job
abbrev pub JOINS : ℕ
JOINS = 256

-- the largest coordinate, and the largest negated; also what a coordinate's word is raised by
abbrev pub COORDINATE : ℕ
COORDINATE = 1048576

-- no point, no record: the largest number of two bytes
abbrev pub NONE : ℕ
NONE = 65535
