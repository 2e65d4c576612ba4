-- Places on a ring of m points, counted from its first point.
use Rattle.std.specs.Prelude.{ℕ, suc, ◌-◌, cond, eqb}

-- the place after p, and the place before it
unfoldable pub next_place : ℕ → ℕ → ℕ
next_place p m = cond (eqb (suc p) m) 0 (suc p)

unfoldable pub prev_place : ℕ → ℕ → ℕ
prev_place p m = cond (eqb p 0) (m - 1) (p - 1)
