-- What the functions that apply an act require.
use Rattle.std.specs.Prelude.{ℕ, ◌+◌, ◌≤◌, ◌<◌, ◌≡◌, Bool, true, List, length}
use Rattle.job.specs.Limits as limit
use Rattle.geometry.specs.declared.Point.{Point}
use Rattle.geometry.specs.Table.{InTable}
use Rattle.lone.specs.Act.{Act, stay, discard, drop_point, move_on, to_first, double, cut, takes_points}
use Rattle.store.specs.Field.{pt, rc, ct, NEXT, PREV, PRESENT, POINTS, RECORDS, BLOCK}
use Rattle.store.specs.Words.{view}
use Rattle.store.specs.Sound.{pts, recs}
use Rattle.acts.specs.Apply.{takes_record}

-- the record, its present place and the points about it are in their columns
pub record Reach (w : List ℕ) (i : ℕ) : Type 0 where
  pub long : BLOCK ≤ length w
  pub record_in : i < limit.RECORDS
  pub present_in : view w (rc PRESENT) i < limit.POINTS
  pub next_in : view w (pt NEXT) (view w (rc PRESENT) i) < limit.POINTS
  pub prev_in : view w (pt PREV) (view w (rc PRESENT) i) < limit.POINTS
  pub second_in : view w (pt NEXT) (view w (pt NEXT) (view w (rc PRESENT) i)) < limit.POINTS

-- a place for a new point of value v
pub record PointFits (w : List ℕ) (v : Point) : Type 0 where
  pub free : view w (ct POINTS) 0 < limit.POINTS
  pub in_table : InTable v

-- a new point k of value v
pub record NewPoint (w : List ℕ) (k : ℕ) (v : Point) : Type 0 where
  pub long : BLOCK ≤ length w
  pub low : k < limit.POINTS
  pub in_table : InTable v

-- a cut in the ring itself, with a place for the new point if one is put in
pub record CutFits (w : List ℕ) (i : ℕ) (v : Point) (put : Bool) : Type 0 where
  pub reach : Reach w i
  pub free : put ≡ true → PointFits w v

-- a place for a new record and its point, of value v; x and y go with it
pub record OffcutFits (w : List ℕ) (i x y : ℕ) (v : Point) : Type 0 where
  pub long : BLOCK ≤ length w
  pub record_in : i < limit.RECORDS
  pub x_in : x < limit.POINTS
  pub y_in : y < limit.POINTS
  pub free : view w (ct POINTS) 0 < limit.POINTS
  pub record_free : view w (ct RECORDS) 0 < limit.RECORDS
  pub in_table : InTable v

-- the value of a new point is in the table
abbrev pub NewIn : Act Point → Type 0
NewIn stay = Unit {0}
NewIn (discard y) = Unit {0}
NewIn drop_point = Unit {0}
NewIn (move_on d) = Unit {0}
NewIn (to_first d) = Unit {0}
NewIn (double v d) = InTable v
NewIn (cut v put off d) = InTable v

-- all that an act needs
pub record Applies (w : List ℕ) (i : ℕ) (act : Act Point) : Type 0 where
  pub reach : Reach w i
  pub points_fit : pts (view w) + takes_points act ≤ limit.POINTS
  pub records_fit : recs (view w) + takes_record act ≤ limit.RECORDS
  pub new_in : NewIn act
