-- What document 01 says of the sorted list of level segments: "valid ones first, by left x"; "Fewer than two valid: no joins made".
use Rattle.std.specs.Prelude.{ℕ, suc, ◌≤◌, ◌<◌, ◌≢◌, cond, List, [], ◌∷◌, eqb, length, get_or}
use Rattle.store.specs.Field.{NONE}
use Rattle.sorting.specs.declared.HorzSegment.{HorzSegment}
use Rattle.segments.specs.Level.{x_of}
use Rattle.segments.specs.Update.{blank}

-- a segment with a right point
abbrev pub IsValid : HorzSegment → Type 0
IsValid s = s.right ≢ NONE

-- "valid ones first, by left x": those before a valid one are valid, and begin nowhere to the right of it
pub record ValidFirst (w : List ℕ) (R : List HorzSegment) : Type 0 where
  pub first : (i j : ℕ) → i < j → j < length R → IsValid (get_or R j blank) → IsValid (get_or R i blank)
  pub by_left : (i j : ℕ) → i < j → j < length R → IsValid (get_or R j blank) → x_of w (get_or R i blank).left ≤ x_of w (get_or R j blank).left

-- how many are valid
abbrev pub valid_in : List HorzSegment → ℕ
valid_in [] = 0
valid_in (s ∷ R) = cond (eqb s.right NONE) (valid_in R) (suc (valid_in R))
