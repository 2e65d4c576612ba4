-- Signed numbers of 32 bits kept as words that are raised, so that the ones near zero are small words.
use Rattle.std.specs.Prelude.{ℕ, ◌+◌, ◌-◌, ◌%◌, ◌^◌, ℤ, pos, ◌-ℤ◌}
use Rattle.std.specs.Int.{w32}
use Rattle.std.proofs.Common.{to_z}

-- the word of the number whose four bytes, in two's complement, make `v`: that number plus `by`
abbrev pub raised : ℕ → ℕ → ℕ
raised by v = (v + by) % 2 ^ 32

-- back: what the four bytes of a raised word's number make
abbrev pub lowered : ℕ → ℕ → ℕ
lowered by w = (w + (2 ^ 32 - by)) % 2 ^ 32

-- the signed number that four bytes in two's complement stand for, given what they make
abbrev pub signed : ℕ → ℤ
signed v = to_z w32 v

-- the signed number that a raised word stands for
abbrev pub coordinate : ℕ → ℕ → ℤ
coordinate by w = pos w -ℤ pos by
