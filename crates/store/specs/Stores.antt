-- Stores as functions: one column's number set, a list of writes, and what a list misses.
use Rattle.std.specs.Prelude.{ℕ, ◌<◌, ◌≡◌, ◌≢◌, ◌⊎◌, cond, false, List, [], ◌∷◌, eqb}
use Rattle.store.specs.Field.{Field, size, same}
use Rattle.store.specs.Words.{Store, Write}

-- the store with v at i of column f
abbrev pub upd : Store → Field → ℕ → ℕ → Store
upd s f i v g j = cond (same f g) (cond (eqb j i) v (s g j)) (s g j)

abbrev pub on_store : Store → List Write → Store
on_store s [] = s
on_store s (x ∷ xs) = on_store (upd s x.to x.at x.is) xs

-- every write is to a word of its column
abbrev pub Within : List Write → Type 0
Within [] = Unit {0}
Within (x ∷ xs) = (x.at < size x.to) × Within xs

-- a place that none of the writes is to
abbrev pub Misses : List Write → Field → ℕ → Type 0
Misses [] g j = Unit {0}
Misses (x ∷ xs) g j = ((same x.to g ≡ false) ⊎ (j ≢ x.at)) × Misses xs g j
