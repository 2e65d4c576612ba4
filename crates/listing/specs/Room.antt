-- How long a listing's text is at most.
use Rattle.std.specs.Prelude.{ℕ, ◌+◌, ◌*◌}
use Rattle.job.specs.Limits.{POINTS, RECORDS}

-- no listing of a job is longer: the first line; the head and end of a line for each record; the text of each point; the charge. (Twenty digits a number.)
abbrev pub TEXT : ℕ
TEXT = 54 + 49 * RECORDS + 66 * POINTS + 49
