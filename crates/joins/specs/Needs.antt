-- What the functions of a join ask of the words.
use Rattle.std.specs.Prelude.{ℕ, ◌*◌, ◌<◌, ◌≤◌, ◌≢◌, List, ◌∷◌, length, get_or}
use Rattle.job.specs.Limits as limit
use Rattle.rings.specs.Whole.{Whole}
use Rattle.store.specs.Field.{BLOCK}
use Rattle.store.specs.Words.{view}
use Rattle.store.specs.Named.{next_of, prev_of, first_of, points_of}
use Rattle.joins.specs.Paths.{Resolves, Lives}
use Rattle.joins.specs.Resolved.{Ready}

-- record r resolves to record q
pub record Resolving (w : List ℕ) (r : ℕ) : Type 0 where
  pub ready : Ready w
  pub to : ℕ
  pub res : Resolves (view w) r to

-- p is a point
pub record Point (w : List ℕ) (p : ℕ) : Type 0 where
  pub ready : Ready w
  pub low : p < points_of w

-- two points
pub record Points (w : List ℕ) (a c : ℕ) : Type 0 where
  pub ready : Ready w
  pub one : a < points_of w
  pub two : c < points_of w

-- the four points of a relink
pub record Four (w : List ℕ) (a c : ℕ) : Type 0 where
  pub long : BLOCK ≤ length w
  pub one : a < limit.POINTS
  pub two : c < limit.POINTS
  pub next : next_of w a < limit.POINTS
  pub prev : prev_of w c < limit.POINTS

-- record k has a ring
pub record Ringed (w : List ℕ) (k : ℕ) : Type 0 where
  pub long : BLOCK ≤ length w
  pub low : k < limit.RECORDS
  pub others : List ℕ
  pub whole : Whole (next_of w) (prev_of w) limit.POINTS (first_of w k ∷ others)

-- a join that is no knot, by the records of its two points
pub record Unknotted (w : List ℕ) (a c i j : ℕ) : Type 0 where
  pub ready : Ready w
  pub one : Lives (view w) i a
  pub two : Lives (view w) j c
  pub loose : next_of w a ≢ c

-- n joins: their points two by two
pub record Joins (w : List ℕ) (n : ℕ) (js : List ℕ) : Type 0 where
  pub ready : Ready w
  pub fits : 2 * n ≤ length js
  pub points : (i : ℕ) → i < 2 * n → get_or js i 0 < points_of w
