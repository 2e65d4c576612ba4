-- What the functions that read a ring require and answer: points of a ring, and their values.
use Rattle.std.specs.Prelude.{ℕ, ◌≤◌, ◌<◌, ◌≡◌, List, false, length}
use Rattle.job.specs.Limits as limit
use Rattle.rings.specs.Progress.{is_done}
use Rattle.geometry.specs.declared.Point.{Point}
use Rattle.geometry.specs.Table.{InTable}
use Rattle.crossing.specs.declared.Edges.{Edges}
use Rattle.crossing.specs.Within.{Paired}
use Rattle.store.specs.Field.{rc, FIRST, PRESENT, BLOCK}
use Rattle.store.specs.Words.{view}
use Rattle.store.specs.Sound.{Closed, due_at}
use Rattle.store.specs.Good.{Sound}
use Rattle.store.specs.Value.{point_of}
use Rattle.walks.specs.Ring.{OnRing}

-- r is the point k, which is on a ring
pub record Found (w : List ℕ) (k r : ℕ) : Type 0 where
  pub is : r ≡ k
  pub on : OnRing w r
  pub low : r < limit.POINTS

-- p is the value of the point k
pub record Valued (w : List ℕ) (k : ℕ) (p : Point) : Type 0 where
  pub is : p ≡ point_of w k
  pub in_table : InTable p

-- an unfinished closed ring of a sound work space
pub record Steps (w : List ℕ) (i : ℕ) : Type 0 where
  pub long : BLOCK ≤ length w
  pub sound : Sound (view w)
  pub closed : Closed (view w) i
  pub unfinished : is_done (due_at (view w) i) ≡ false

-- what its decision reads: its first point and its present place are on a ring
pub record Going (w : List ℕ) (i : ℕ) : Type 0 where
  pub long : BLOCK ≤ length w
  pub record_in : i < limit.RECORDS
  pub first_on : OnRing w (view w (rc FIRST) i)
  pub present_on : OnRing w (view w (rc PRESENT) i)

-- points of rings
pub record Three (w : List ℕ) (a b c : ℕ) : Type 0 where
  pub one : OnRing w a
  pub two : OnRing w b
  pub three : OnRing w c

pub record Four (w : List ℕ) (a b c d : ℕ) : Type 0 where
  pub one : OnRing w a
  pub two : OnRing w b
  pub three : OnRing w c
  pub four : OnRing w d

-- the edges from the point p to x and from y to z
pub record EdgesAt (w : List ℕ) (p x y z : ℕ) (e : Edges) : Type 0 where
  pub paired : Paired e
  pub prev_is : e.a ≡ point_of w p
  pub pt_is : e.b ≡ point_of w x
  pub next_is : e.c ≡ point_of w y
  pub after_is : e.d ≡ point_of w z
