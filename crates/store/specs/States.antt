-- The kept states: "four kept states, each under a name of one byte". A place has a word that says its name, and a copy of the live block.
use Rattle.std.specs.Prelude.{ℕ, suc, ◌+◌, ◌*◌, ◌<◌, ◌≡◌, ◌≢◌, Bool, true, ◌&&◌, List, eqb, leb, get_or, take, drop}
use Rattle.store.specs.Field.{BLOCK, STATES, NAMES, KEPT}

-- ---- names

-- how many names there are: those of one byte
abbrev pub BYTES : ℕ
BYTES = 256

-- the word that says a name is one more than it; 0 and every other word say that the place is free
abbrev pub word_of_name : ℕ → ℕ
word_of_name n = suc n

abbrev pub is_name : ℕ → Bool
is_name v = leb 1 v && leb v BYTES

-- the word of place p
abbrev pub name_at : List ℕ → ℕ → ℕ
name_at w p = get_or w (NAMES + p) 0

-- both places keep one name
abbrev pub same_name : List ℕ → ℕ → ℕ → Bool
same_name w p q = is_name (name_at w p) && eqb (name_at w p) (name_at w q)

-- no two places keep one name
pub record Apart (w : List ℕ) : Type 0 where
  pub differ : (p q : ℕ) → p < q → q < STATES → is_name (name_at w p) ≡ true → name_at w p ≢ name_at w q

-- ---- blocks

abbrev pub block_of : List ℕ → List ℕ
block_of w = take BLOCK w

-- where the copy of place p begins
abbrev pub copy_at : ℕ → ℕ
copy_at p = KEPT + BLOCK * p

abbrev pub kept_block : List ℕ → ℕ → List ℕ
kept_block w p = take BLOCK (drop (copy_at p) w)
