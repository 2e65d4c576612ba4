-- What the functions of the conversion ask of words, lists and joins.
use Rattle.std.specs.Prelude.{ℕ, ◌+◌, ◌*◌, ◌≤◌, ◌<◌, ◌≡◌, ◌≢◌, ◌⊎◌, List, get_or, length}
use Rattle.job.specs.Limits as limit
use Rattle.store.specs.Field.{NONE}
use Rattle.store.specs.Named.{points_of}
use Rattle.joins.specs.Resolved.{Ready}
use Rattle.segments.specs.Needs.{Span, Overlap, Meeting, Listed}

-- two points, and room for a join
pub record Making (w js : List ℕ) (m a b : ℕ) : Type 0 where
  pub ready : Ready w
  pub one : a < points_of w
  pub two : b < points_of w
  pub few : 2 * m ≤ points_of w + 2 * limit.JOINS
  pub room : limit.POINTS + 2 * limit.JOINS ≤ length js

-- the invariant of the pair loops: every valid segment spans from left to right on one ring, and every join so far names points
pub record Pairing (w ls rs fs js : List ℕ) (m : ℕ) : Type 0 where
  pub ready : Ready w
  pub lefts : length ls ≡ limit.SEGMENTS
  pub rights : length rs ≡ limit.SEGMENTS
  pub forwards : length fs ≡ limit.SEGMENTS
  pub room : limit.POINTS + 2 * limit.JOINS ≤ length js
  pub span : (s : ℕ) → s < limit.SEGMENTS → (get_or rs s 0 ≡ NONE) ⊎ Span w (get_or ls s 0) (get_or rs s 0)
  pub named : (k : ℕ) → k < 2 * m → get_or js k 0 < points_of w
  pub few : 2 * m ≤ points_of w + 2 * limit.JOINS

-- rows i and j, both valid
pub record Valid (w ls rs fs : List ℕ) (i j : ℕ) : Type 0 where
  pub ready : Ready w
  pub lefts : length ls ≡ limit.SEGMENTS
  pub rights : length rs ≡ limit.SEGMENTS
  pub forwards : length fs ≡ limit.SEGMENTS
  pub one_low : i < limit.SEGMENTS
  pub two_low : j < limit.SEGMENTS
  pub one : Span w (get_or ls i 0) (get_or rs i 0)
  pub two : Span w (get_or ls j 0) (get_or rs j 0)

-- that overlap; i comes before j
pub record Overlapping (w ls rs fs : List ℕ) (i j : ℕ) : Type 0 where
  pub lefts : length ls ≡ limit.SEGMENTS
  pub rights : length rs ≡ limit.SEGMENTS
  pub forwards : length fs ≡ limit.SEGMENTS
  pub before : i < j
  pub low : j < limit.SEGMENTS
  pub overlap : Overlap w (get_or ls i 0) (get_or rs i 0) (get_or ls j 0) (get_or rs j 0)

-- the same, without the right points
pub record Moving (w ls fs : List ℕ) (i j : ℕ) : Type 0 where
  pub lefts : length ls ≡ limit.SEGMENTS
  pub forwards : length fs ≡ limit.SEGMENTS
  pub before : i < j
  pub low : j < limit.SEGMENTS
  pub meeting : Meeting w (get_or ls i 0) (get_or ls j 0)

pub record Joining (w ls fs js : List ℕ) (m i j : ℕ) : Type 0 where
  pub rights : List ℕ
  pub overlapping : Overlapping w ls rights fs i j
  pub pairing : Pairing w ls rights fs js m

-- a pair at its turn
pub record PairAt (w ls rs fs js : List ℕ) (m i j : ℕ) : Type 0 where
  pub pairing : Pairing w ls rs fs js m
  pub before : i < j
  pub low : j < limit.SEGMENTS
  pub one : get_or rs i 0 ≢ NONE
  pub two : get_or rs j 0 ≢ NONE

-- n segments by their points ps, and m joins of the job's own by their points js
pub record Converting (w ps : List ℕ) (n : ℕ) (js : List ℕ) (m : ℕ) : Type 0 where
  pub listed : Listed w n ps
  pub room : limit.POINTS + 2 * limit.JOINS ≤ length js
  pub few : m ≤ limit.JOINS
  pub named : (k : ℕ) → k < 2 * m → get_or js k 0 < points_of w
