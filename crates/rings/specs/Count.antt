-- Counting: sums over a list and over the numbers below a bound, how often a number occurs in a list, and the values of a function at numbers in a row.
use Rattle.std.specs.Prelude.{cond, List, [], ◌∷◌, ℕ, zero, suc, ◌+◌, eqb}

abbrev pub sum_by : {A : Type 0} → (A → ℕ) → List A → ℕ
sum_by f [] = 0
sum_by f (x ∷ xs) = f x + sum_by f xs

-- f 0 + .. + f (n - 1)
abbrev pub sum_to : ℕ → (ℕ → ℕ) → ℕ
sum_to zero f = 0
sum_to (suc n) f = sum_to n f + f n

abbrev pub one : ℕ → ℕ → ℕ
one k x = cond (eqb x k) 1 0

-- how often k is in a list
abbrev pub occ : ℕ → List ℕ → ℕ
occ k c = sum_by (one k) c

-- g k, g (k + 1), .., n of them
abbrev pub table : {A : Type 0} → (ℕ → A) → ℕ → ℕ → List A
table g k zero = []
table g k (suc n) = g k ∷ table g (suc k) n
