-- A bound on the steps that a ring takes.
use Rattle.std.specs.Prelude.{ℕ, zero, suc, ◌+◌, ◌*◌}

-- of a circle's size: more than a smaller circle's with any walk on it
abbrev pub rounds : ℕ → ℕ
rounds zero = 0
rounds (suc n) = rounds n + (n + 2)

-- no circle of n points weighs more
abbrev pub heaviest : ℕ → ℕ
heaviest n = 4 + (rounds n + n) + (rounds n + n)

-- no ring takes as many steps with at most lp points
abbrev pub enough : ℕ → ℕ
enough lp = suc lp * suc (heaviest lp)
