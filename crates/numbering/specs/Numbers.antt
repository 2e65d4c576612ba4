-- The new numbers of points, set in a table one after another.
use Rattle.std.specs.Prelude.{ℕ, zero, suc, List, [], ◌∷◌, set}
use Rattle.store.specs.Words.{Store}
use Rattle.store.specs.Sound.{ring_at}

-- the next number, and the table: the number of each point
pub record NumberedTo : Type 0 where
  pub next : ℕ
  pub numbers : List ℕ

abbrev pub numbered_to : ℕ → List ℕ → NumberedTo
numbered_to k t = record { next = k; numbers = t }

-- the points of a list, from k on
unfoldable pub number_on : List ℕ → ℕ → List ℕ → NumberedTo
number_on [] k t = numbered_to k t
number_on (p ∷ l) k t = number_on l (suc k) (set t p k)

abbrev pub number_onward : List ℕ → NumberedTo → NumberedTo
number_onward l n = number_on l n.next n.numbers

-- the points of the rings of the records below i, from 0 on
unfoldable pub number_to : Store → ℕ → List ℕ → NumberedTo
number_to s zero t = numbered_to 0 t
number_to s (suc i) t = number_onward (ring_at s i) (number_to s i t)
