-- How long the text of a job's records is at most.
use Rattle.std.specs.Prelude.{ℕ, ◌*◌}
use Rattle.job.specs.Limits.{RECORDS}

-- a line for each record, of 53 bytes at most: `record 511: `, the longest words, a newline. (A refusal's line is shorter than one of them.)
abbrev pub TEXT : ℕ
TEXT = 53 * RECORDS
