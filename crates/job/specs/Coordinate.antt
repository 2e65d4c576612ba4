-- A coordinate as a word: the signed number plus the limit. And z as a word.
use Rattle.std.specs.Prelude.{ℕ, ◌*◌, Bool, List, ltb}
use Rattle.numbers.specs.Bytes.{le}
use Rattle.numbers.specs.Raised.{raised}
use Rattle.job.specs.Limits.{COORDINATE}

-- the word of the coordinate (i32, low byte first) whose four bytes stand in `s` from `at` on
abbrev pub word_at : ℕ → List ℕ → ℕ
word_at at s = raised COORDINATE (le 4 at s)

-- the word of a z (i32): its bits as they are, not raised; "row 4 doesn't bind" it
abbrev pub depth_at : ℕ → List ℕ → ℕ
depth_at at s = raised 0 (le 4 at s)

-- row 4 of one coordinate: beyond the limit, on either side (`off_the_table_means` says so in ℤ)
abbrev pub off_the_table : ℕ → Bool
off_the_table w = ltb (2 * COORDINATE) w
