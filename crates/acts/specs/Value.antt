-- The value of a point, from its three words.
use Rattle.std.specs.Prelude.{ℕ}
use Rattle.store.specs.Field.{pt, X, Y, Z}
use Rattle.store.specs.Words.{Store}

-- the value of a point, from its three words
abbrev pub value : {P : Type 0} → (ℕ → ℕ → ℕ → P) → Store → ℕ → P
value of s k = of (s (pt X) k) (s (pt Y) k) (s (pt Z) k)
