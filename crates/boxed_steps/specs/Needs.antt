-- What the code of a step with its boxes asks.
use Rattle.std.specs.Prelude.{ℕ, ◌≤◌, ◌≡◌, Bool, false, List, length}
use Rattle.job.specs.Limits as limit
use Rattle.store.specs.Field.{BLOCK}
use Rattle.store.specs.Named.{records_of}
use Rattle.store.specs.Boxes.{boxed_at}

-- words that a box may be written to
pub record Boxable (w : List ℕ) : Type 0 where
  pub long : BLOCK ≤ length w
  pub few : records_of w ≤ limit.RECORDS

-- where nothing says that record i's box has changed, the words beside it are its ring's
pub record Unchanged (w : List ℕ) (i : ℕ) (changes : Bool) : Type 0 where
  pub same : changes ≡ false → boxed_at w i ≡ w
