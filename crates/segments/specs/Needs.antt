-- What the level walks, a pair's moves and the first loop ask.
use Rattle.std.specs.Prelude.{ℕ, ◌<◌, ◌≤◌, List, get_or, length}
use Rattle.store.specs.Words.{view}
use Rattle.joins.specs.Paths.{Lives}
use Rattle.joins.specs.Resolved.{Ready}
use Rattle.segments.specs.declared.level.Halt.{Halt}
use Rattle.segments.specs.declared.level.Halt.TheVariants.{Wall, Stop, Limit}
use Rattle.segments.specs.Level.{x_of}
use Rattle.job.specs.Limits as limit
use Rattle.store.specs.Named.{points_of}

-- p and q are on one ring
pub record Together (w : List ℕ) (p q : ℕ) : Type 0 where
  pub ready : Ready w
  pub at : ℕ
  pub one : Lives (view w) at p
  pub two : Lives (view w) at q

-- p is a point of record i's ring
pub record Home (w : List ℕ) (p i : ℕ) : Type 0 where
  pub ready : Ready w
  pub here : Lives (view w) i p

-- what ends a pair's walk: its segment's right point is on the same ring, to the right of the limit
pub record Bounded (w : List ℕ) (p limit : ℕ) : Type 0 where
  pub right : ℕ
  pub same : Together w p right
  pub beyond : limit < x_of w right

-- a walk from p comes to what ends it
abbrev pub Ending : List ℕ → ℕ → Halt → Type 0
Ending w p (Wall k) = Together w p k
Ending w p (Stop k) = Together w p k
Ending w p (Limit k) = Bounded w p k

-- a valid segment
pub record Span (w : List ℕ) (left right : ℕ) : Type 0 where
  pub same : Together w left right
  pub wide : x_of w left < x_of w right

-- two valid segments that overlap: neither begins where or after the other ends
pub record Overlap (w : List ℕ) (l1 r1 l2 r2 : ℕ) : Type 0 where
  pub one : Span w l1 r1
  pub two : Span w l2 r2
  pub first : x_of w l2 < x_of w r1
  pub second : x_of w l1 < x_of w r2

-- the same, by their left points
pub record Meeting (w : List ℕ) (l1 l2 : ℕ) : Type 0 where
  pub r1 : ℕ
  pub r2 : ℕ
  pub overlap : Overlap w l1 r1 l2 r2

-- n points of a work space that opening is joining
pub record Listed (w : List ℕ) (n : ℕ) (ps : List ℕ) : Type 0 where
  pub ready : Ready w
  pub fits : n ≤ length ps
  pub few : n ≤ limit.SEGMENTS
  pub point : (i : ℕ) → i < n → get_or ps i 0 < points_of w
