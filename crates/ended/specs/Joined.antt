-- The join that emptied a record, and the record that took it in that join.
use Rattle.std.specs.Prelude.{◌≡◌, ◌≢◌, List, ℕ, ◌+◌, ◌*◌, get_or, Ok}
use Rattle.joins.specs.Resolve.{home_of}
use Rattle.joins.specs.Join.{end, join_of, process_horz_joins}

-- of the joins js, on the words w: when those before join number k were done, its first point was record u's and its second record j's, another one; and it was made
pub record EmptiedAt (js w : List ℕ) (k u j : ℕ) : Type 0 where
  pub before : List ℕ
  pub after : List ℕ
  pub turn : process_horz_joins k js w ≡ end (Ok tt) before
  pub made : join_of before (get_or js (2 * k) 0) (get_or js (2 * k + 1) 0) ≡ end (Ok tt) after
  pub into : home_of before (get_or js (2 * k) 0) ≡ u
  pub from : home_of before (get_or js (2 * k + 1) 0) ≡ j
  pub two : u ≢ j
