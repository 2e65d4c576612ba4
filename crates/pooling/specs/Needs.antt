-- What the columns ask: work spaces that are long enough, and room for both.
use Rattle.std.specs.Prelude.{ℕ, ◌+◌, ◌≤◌, List, length, ◌≡◌}
use Rattle.job.specs.Limits as limit
use Rattle.store.specs.Field.{BLOCK}
use Rattle.store.specs.Words.{view}
use Rattle.pooling.specs.declared.Used.{Used}
use Rattle.pooling.specs.Pooled.{used_in}

pub record RoomForBoth (w v : List ℕ) (a b : Used) : Type 0 where
  pub first_long : BLOCK ≤ length w
  pub second_long : BLOCK ≤ length v
  pub few_points : a.points + b.points ≤ limit.POINTS
  pub few_records : a.records + b.records ≤ limit.RECORDS

-- the counts of a work space that passed its tests
pub record CountsOf (w : List ℕ) (c : Used) : Type 0 where
  pub is : c ≡ used_in (view w)
  pub few_points : c.points ≤ limit.POINTS
  pub few_records : c.records ≤ limit.RECORDS
