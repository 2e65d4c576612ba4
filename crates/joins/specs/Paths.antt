-- Paths of emptied records to one with points, and what a point resolves to, as relations.
use Rattle.std.specs.Prelude.{ℕ, ◌<◌, ◌≡◌, ◌≢◌, List, [], ◌∷◌}
use Rattle.rings.specs.Links.{All}
use Rattle.store.specs.Field.{pt, rc, REC, OWNER, FIRST, NONE}
use Rattle.store.specs.Words.{Store}
use Rattle.store.specs.Sound.{pts, recs}

-- from r along owners by the records of l, all of them without points, to q
abbrev pub Path : (ℕ → ℕ) → (ℕ → ℕ) → ℕ → List ℕ → ℕ → Type 0
Path first owner r [] q = r ≡ q
Path first owner r (x ∷ l) q = (r ≡ x) × (first x ≡ NONE) × Path first owner (owner x) l q

-- record r resolves to record q
pub record Resolves (s : Store) (r q : ℕ) : Type 0 where
  pub via : List ℕ
  pub path : Path (s (rc FIRST)) (s (rc OWNER)) r via q
  pub low : All (λ x. x < recs s) via
  pub real : q < recs s
  pub some : s (rc FIRST) q ≢ NONE

-- k is a point, and resolves to record i
pub record Lives (s : Store) (i k : ℕ) : Type 0 where
  pub bound : k < pts s
  pub res : Resolves s (s (pt REC) k) i
