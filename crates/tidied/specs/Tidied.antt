-- Request 6, "Nothing left to tidy", for whoever drives a blade: before a ring is split, no stray point is on it. `Tidied` says what a whole removal pass, from the
-- validity test to the triangle test, leaves of a ring; `NothingLeft` says it of the words: after every list of steps, wherever the triangle test is due.
use Rattle.std.specs.Prelude.{ℕ, ◌≤◌, ◌<◌, ◌≡◌, Bool, true, false, List, [], ◌∷◌, ◌++◌}
use Rattle.geometry.specs.declared.Point.{Point}
use Rattle.geometry.specs.Plane.{area_outpt}
use Rattle.rings.specs.Circle.{turn, spin, last_of, head_or}
use Rattle.rings.specs.Progress.{validity, triangle}
use Rattle.lone.specs.Lone.{Geo}
use Rattle.lone.specs.Plane.{plane}
use Rattle.store.specs.Words.{view}
use Rattle.store.specs.Sound.{recs, due_at, Closed}
use Rattle.store.specs.Value.{ring_points, preserve_collinear}
use Rattle.finishing.specs.Run.{run_of}

-- ---- of a circle of points, by value

-- d is c without some of its points, in order
pub data Among {P : Type 0} : List P → List P → Type 0 where
  nothing : Among [] []
  stays : {x : P} {d c : List P} → Among d c → Among (x ∷ d) (x ∷ c)
  missing : {x : P} {d c : List P} → Among d c → Among d (x ∷ c)

-- and in cyclic order: c is seen from one of its places
pub record InCyclicOrder {P : Type 0} (c d : List P) : Type 0 where
  pub from : ℕ
  pub among : Among d (spin from c)

module _ {P : Type 0} (G : Geo P) where
  -- the point at the circle's present place meets the removal test against its present neighbours
  abbrev pub meets : List P → Bool
  meets [] = false
  meets (x ∷ xs) = G.removable (last_of x xs) x (head_or x xs)

  -- no point does, from whichever place the circle is seen
  abbrev pub Clean : List P → Type 0
  Clean c = (k : ℕ) → meets (spin k c) ≡ false

  -- a chain of single drops from one circle to another. The circle may be seen from the next place on; the point at the present place goes only where it meets the
  -- test against the neighbours that it then has
  pub data Drops : List P → List P → Type 0 where
    no_more : {c : List P} → Drops c c
    onward : {c d : List P} → Drops (turn c) d → Drops c d
    dropped : {x next : P} {ps d : List P} → G.removable (last_of next ps) x next ≡ true → Drops (next ∷ ps) d → Drops (x ∷ next ∷ ps) d

-- what a whole removal pass leaves of a ring, by its points at the start and now, each from the first in walk order; preserve: `preserve_collinear`, on or off
pub record Tidied (preserve : Bool) (original survivors : List Point) : Type 0 where
  -- "no point may meet the removal test against its present neighbours"
  pub clean : Clean (plane preserve) survivors
  -- "The survivors must be the original points in their cyclic order"
  pub in_order : InCyclicOrder original survivors
  -- "each missing one having met that test as it went"
  pub chain : Drops (plane preserve) original survivors
  -- "and the ring's doubled area must equal what it was before"
  pub area : area_outpt survivors ≡ area_outpt original

-- ---- on words; w: the work space as opening left it

-- when record j came to be, in a list of steps: it is one of opening's, or the last of these steps made it
pub data CameWith (w : List ℕ) (j : ℕ) : List ℕ → Type 0 where
  opening_left : j < recs (view w) → CameWith w j []
  step_made : (earlier : List ℕ) (i : ℕ) → recs (view (run_of w earlier)) ≤ j → j < recs (view (run_of w (earlier ++ (i ∷ [])))) → CameWith w j (earlier ++ (i ∷ []))

-- a whole pass is behind record j after the list `is`
pub record PassBehind (w is : List ℕ) (j : ℕ) : Type 0 where
  -- the list up to the ring's start, and the steps since
  pub before : List ℕ
  pub since : List ℕ
  pub together : is ≡ before ++ since
  pub came : CameWith w j before
  -- there the ring was at its start
  pub stands_at_start : due_at (view (run_of w before)) j ≡ validity
  -- and the ring now, by value, is what a whole removal pass leaves of what it was then
  pub tidied : Tidied (preserve_collinear (view w)) (ring_points (view (run_of w before)) j) (ring_points (view (run_of w is)) j)

-- "For every ring that a whole removal pass keeps": every closed ring on which the triangle test is due
abbrev pub NothingLeft : List ℕ → Type 0
NothingLeft w = (is : List ℕ) (j : ℕ) → Closed (view (run_of w is)) j → due_at (view (run_of w is)) j ≡ triangle → PassBehind w is j
