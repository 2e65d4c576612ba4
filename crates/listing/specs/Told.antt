-- What listing answers and leaves, for every text and every lent slice; and the trays that can be listed.
use Rattle.std.specs.Prelude.{ℕ, cond, List, ◌++◌, leb, length, take, drop}
use Rattle.std.specs.Prelude.{Option, Some, None}

-- the answer and the slice
pub record Told : Type 0 where
  pub answer : Option ℕ
  pub out : List ℕ

abbrev pub told : Option ℕ → List ℕ → Told
told r out = record { answer = r; out = out }

abbrev pub answer_at : ℕ → List ℕ → Option ℕ
answer_at at out = cond (leb at (length out)) (Some at) None

-- the text, as far as there is room, and then what was there; how long the text is, or that there is no room for all of it
unfoldable pub tell : List ℕ → List ℕ → Told
tell text out = told (answer_at (length text) out) (take (length out) text ++ drop (length text) out)
