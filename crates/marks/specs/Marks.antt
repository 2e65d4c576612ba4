-- Marks of a job's points, a bit each, in words.
use Rattle.std.specs.Prelude.{ℕ, zero, suc, ◌/◌, ◌%◌, ◌^◌, Bool, true, ◌&&◌, List, eqb, get_or, set}
use Rattle.std.specs.Int.Bits.{bit_or}
use Rattle.job.specs.Limits.{POINTS}

-- the bits of a word
abbrev pub BITS : ℕ
BITS = 64

-- the words that hold a bit for each point
abbrev pub WORDS : ℕ
WORDS = POINTS / BITS

-- bit i of a word is set
unfoldable pub bit : ℕ → ℕ → Bool
bit w i = eqb (w / 2 ^ i % 2) 1

-- a word with bit i set
unfoldable pub with_bit : ℕ → ℕ → ℕ
with_bit w i = bit_or w (2 ^ i)

-- point i is marked; past the words there is no mark
unfoldable pub marked : List ℕ → ℕ → Bool
marked ws i = bit (get_or ws (i / BITS) 0) (i % BITS)

-- the bits of b are set in word j too; past the words there is nothing to set
unfoldable pub with_bits : List ℕ → ℕ → ℕ → List ℕ
with_bits ws j b = set ws j (bit_or (get_or ws j 0) b)

-- point i is marked too
abbrev pub with_mark : List ℕ → ℕ → List ℕ
with_mark ws i = with_bits ws (i / BITS) (2 ^ (i % BITS))

-- the test holds of every number below n
unfoldable pub all_below : ℕ → (ℕ → Bool) → Bool
all_below zero q = true
all_below (suc n) q = all_below n q && q n
