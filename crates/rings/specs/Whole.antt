-- A whole ring: linked both ways, each point once, below a bound.
use Rattle.std.specs.Prelude.{ℕ, ◌≤◌, ◌<◌, List}
use Rattle.rings.specs.Count.{occ}
use Rattle.rings.specs.Links.{Linked}

-- a whole ring: linked both ways, each point once, below m
pub record Whole (n p : ℕ → ℕ) (m : ℕ) (c : List ℕ) : Type 0 where
  pub linked : Linked n p c
  pub once : (k : ℕ) → occ k c ≤ 1
  pub below : (k : ℕ) → 0 < occ k c → k < m
