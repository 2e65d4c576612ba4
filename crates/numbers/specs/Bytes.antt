-- Little-endian numbers in a list of bytes, read: one definition for every width. Writing is beside it (Written).
use Rattle.std.specs.Prelude.{ℕ, zero, suc, ◌+◌, ◌*◌, ◌^◌, List, slice_index}

-- the number that `n` bytes of `s` make from `at` on, low byte first; past the end a byte counts as 0
abbrev pub le : ℕ → ℕ → List ℕ → ℕ
le zero at s = 0
le (suc zero) at s = slice_index s at
le (suc (suc n)) at s = le (suc n) at s + 256 ^ suc n * slice_index s (at + suc n)
