-- Writing a number's bytes, and what reading one says.
use Rattle.std.specs.Prelude.{◌≡◌, ℕ, zero, suc, ◌+◌, ◌-◌, ◌/◌, ◌%◌, ◌^◌, ◌<◌, List, length, drop, slice_set}
use Rattle.numbers.specs.Bytes.{le}

-- `s` with the `n` low bytes of `v` from `at` on, low byte first; every other byte is as it was
abbrev pub put_le : ℕ → ℕ → ℕ → List ℕ → List ℕ
put_le zero at v s = s
put_le (suc zero) at v s = slice_set s at (v % 256)
put_le (suc (suc n)) at v s = slice_set (put_le (suc n) at v s) (at + suc n) (v / 256 ^ suc n % 256)

-- what a reader of `n` bytes answers
pub record Number (n at : ℕ) (s : List ℕ) (r : ℕ) : Type 0 where
  pub is : r ≡ le n at s
  pub small : r < 256 ^ n

-- what `from` answers: the part of `s` that starts at `at`
pub record Part (at : ℕ) (s r : List ℕ) : Type 0 where
  pub is : r ≡ drop at s
  pub long : length r ≡ length s - at
