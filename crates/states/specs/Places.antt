-- The place that keeps a name, and the lowest free one.
use Rattle.std.specs.Prelude.{ℕ, zero, suc, ◌≡◌, ◌<◌, Bool, Option, IfSome, cond, not, List, eqb, ltb}
use Rattle.std.specs.Option.{unwrap_or}
use Rattle.store.specs.Field.{STATES}
use Rattle.store.specs.States.{word_of_name, is_name, name_at}

-- the first of n numbers from p on that passes the test; one past them if none does
unfoldable pub first_from : ℕ → (ℕ → Bool) → ℕ → ℕ
first_from zero q p = p
first_from (suc n) q p = cond (q p) p (first_from n q (suc p))

-- the lowest place that passes it; one past all if none does
abbrev pub lowest : (ℕ → Bool) → ℕ
lowest q = first_from STATES q 0

-- the place that a number names, if it names one of the four
pub record Names (r : Option ℕ) (p : ℕ) : Type 0 where
  pub low : IfSome r (λ k. k < STATES)
  pub is : unwrap_or r STATES ≡ p

-- place p keeps the name
abbrev pub keeps_name : List ℕ → ℕ → ℕ → Bool
keeps_name w n p = eqb (name_at w p) (word_of_name n)

abbrev pub is_free : List ℕ → ℕ → Bool
is_free w p = not (is_name (name_at w p))

abbrev pub place_of : List ℕ → ℕ → ℕ
place_of w n = lowest (λ p. keeps_name w n p)

abbrev pub free_place : List ℕ → ℕ
free_place w = lowest (λ p. is_free w p)

-- "Keeping under a name already used replaces it"; a new one takes a free place, the lowest
abbrev pub keep_place : List ℕ → ℕ → ℕ
keep_place w n = cond (ltb (place_of w n) STATES) (place_of w n) (free_place w)
