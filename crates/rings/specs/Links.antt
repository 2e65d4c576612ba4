-- Links over two functions, next and prev: nothing here knows of words.
use Rattle.std.specs.Prelude.{ℕ, ◌≡◌, List, [], ◌∷◌, ◌++◌}

-- Q holds of every element
abbrev pub All : (ℕ → Type 0) → List ℕ → Type 0
All Q [] = Unit {0}
All Q (x ∷ xs) = Q x × All Q xs

-- each is linked with the one after it
abbrev pub Seg : (ℕ → ℕ) → (ℕ → ℕ) → List ℕ → Type 0
Seg nx pv [] = Unit {0}
Seg nx pv (a ∷ []) = Unit {0}
Seg nx pv (a ∷ b ∷ r) = (nx a ≡ b) × (pv b ≡ a) × Seg nx pv (b ∷ r)

-- and the last with the first
abbrev pub Linked : (ℕ → ℕ) → (ℕ → ℕ) → List ℕ → Type 0
Linked nx pv [] = Unit {0}
Linked nx pv (x ∷ xs) = Seg nx pv (x ∷ xs ++ (x ∷ []))
