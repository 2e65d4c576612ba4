-- A coordinate's word decides row 4 exactly, for every four bytes, and within the limit it stands for the signed number that they make.
use mathlib.Core.Path.{◌≡◌}
use mathlib.Core.List.{List}
use mathlib.Core.Bool.{false}
use Prim.Native.Nat.{ℕ, ◌*◌, ◌<◌}
use native.Mathlib.Omega.{arith}
use lib.Dec.{ltb}
use lib.IntN.{nat_abs}
use lib.ListN.{get_or}
use borrow.Author.Tests.{ltb-false}
use Rattle.numbers.specs.Bytes.{le}
use Rattle.numbers.specs.Raised.{signed, coordinate}
use Rattle.numbers.proofs.Widths.{below}
use Rattle.numbers.proofs.Raises.{off_means, raised_means}
use Rattle.job.specs.Limits.{COORDINATE}
use Rattle.job.specs.Coordinate.{word_at, off_the_table}

module _ (at : ℕ) (s : List ℕ) (bytes : (i : ℕ) → get_or s i 0 < 256) where
  -- "a coordinate beyond the limit": its distance from 0 is above 1,048,576
  pub off_the_table_means : off_the_table (word_at at s) ≡ ltb COORDINATE (nat_abs (signed (le 4 at s)))
  off_the_table_means = off_means COORDINATE (le 4 at s) (omega arith) (below 4 at s bytes)

  pub word_means : off_the_table (word_at at s) ≡ false → coordinate COORDINATE (word_at at s) ≡ signed (le 4 at s)
  word_means e = raised_means COORDINATE (le 4 at s) (omega arith) (below 4 at s bytes) (ltb-false (2 * COORDINATE) (word_at at s) e)
