-- The rings of a job's records, walked along next.
use Rattle.std.specs.Prelude.{ℕ, Bool, false, not, ◌||◌, List, [], ◌∷◌, eqb}
use Rattle.store.specs.Words.{view}
use Rattle.store.specs.Named.{records_of}
use Rattle.store.specs.Sound.{ring_at}
use Rattle.audit.specs.Tests.{is_in, any_below}
use Rattle.joins.specs.Resolve.{home_of}

-- the test holds of a point of the list
unfoldable pub any_in : (ℕ → Bool) → List ℕ → Bool
any_in q [] = false
any_in q (k ∷ l) = q k || any_in q l

-- point k is on record i's ring
abbrev pub on_ring : List ℕ → ℕ → ℕ → Bool
on_ring w i k = is_in k (ring_at (view w) i)

-- row 7: "a point on no record's ring"
abbrev pub alone : List ℕ → ℕ → Bool
alone w k = not (any_below (records_of w) (λ i. on_ring w i k))

-- row 7: "a ring point that resolves to any record but its ring's, or to none"
abbrev pub elsewhere : List ℕ → ℕ → ℕ → Bool
elsewhere w i k = not (eqb (home_of w k) i)

abbrev pub estranged : List ℕ → ℕ → Bool
estranged w i = any_in (λ k. elsewhere w i k) (ring_at (view w) i)
