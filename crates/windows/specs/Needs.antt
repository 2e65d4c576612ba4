-- What the code asks, and what its loops keep.
use Rattle.std.specs.Prelude.{ℕ, ◌≤◌, ◌<◌, ◌≡◌, true, List, length, replicate}
use Rattle.job.specs.Limits as limit
use Rattle.geometry.specs.declared.Rect.{Rect}
use Rattle.store.specs.Field.{BLOCK}
use Rattle.store.specs.Named.{records_of}
use Rattle.paths.specs.Tray.{padded}
use Rattle.windows.specs.RecordsIn.{is_in, passing, all_in}

pub record Counted (w : List ℕ) : Type 0 where
  pub long : BLOCK ≤ length w
  pub few : records_of w ≤ limit.RECORDS

-- a list of zeros that is long enough
pub record Listable (w : List ℕ) (window : Rect) (l : List ℕ) : Type 0 where
  pub counted : Counted w
  pub room : length (all_in w window) ≤ length l
  pub zeros : l ≡ replicate (length l) 0

-- where record i is listed there is a place for it
pub record Roomy (w : List ℕ) (window : Rect) (i : ℕ) (l : List ℕ) (at : ℕ) : Type 0 where
  pub low : at ≤ limit.RECORDS
  pub room : is_in w window i ≡ true → at < length l

-- the records below i are counted
pub record CountedTo (w : List ℕ) (window : Rect) (i m : ℕ) : Type 0 where
  pub low : i ≤ records_of w
  pub is : m ≡ length (passing (is_in w window) i)

-- and listed, zeros past them, in a list that is long enough for all
pub record ListedTo (w : List ℕ) (window : Rect) (l₀ : List ℕ) (i at : ℕ) (l : List ℕ) : Type 0 where
  pub low : i ≤ records_of w
  pub at_is : at ≡ length (passing (is_in w window) i)
  pub list_is : l ≡ padded (length l₀) (passing (is_in w window) i)
  pub room : length (all_in w window) ≤ length l₀
