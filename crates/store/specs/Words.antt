-- Words seen as a store: a store is a function from a column and an index to a number, and `view w` is the store that the words w hold. Definitions
-- and proofs above this file go by stores and named columns; only this file and the layout know lists of words.
use Rattle.std.specs.Prelude.{ℕ, ◌+◌, cond, List, [], ◌∷◌, ltb, get_or, set}
use Rattle.store.specs.Field.{Field, size, base}

-- a store: for each column, its numbers
abbrev pub Store : Type 0
Store = Field → ℕ → ℕ

-- word i of a column, 0 past its end
unfoldable pub cell : Field → List ℕ → ℕ → ℕ
cell f w i = cond (ltb i (size f)) (get_or w (base f + i) 0) 0

-- the words with v at i of a column
unfoldable pub put : Field → List ℕ → ℕ → ℕ → List ℕ
put f w i v = set w (base f + i) v

-- the store that the words hold
abbrev pub view : List ℕ → Store
view w f i = cell f w i

-- a write: v to word i of a column
pub record Write : Type 0 where
  pub to : Field
  pub at : ℕ
  pub is : ℕ

abbrev pub write : Field → ℕ → ℕ → Write
write f i v = record { to = f; at = i; is = v }

-- one after another
abbrev pub on_words : List ℕ → List Write → List ℕ
on_words w [] = w
on_words w (x ∷ xs) = on_words (put x.to w x.at x.is) xs
