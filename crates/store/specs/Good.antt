-- A sound store: what the tests of a handed work space decide, and every later call works under.
use Rattle.std.specs.Prelude.{ℕ, ◌*◌, ◌≤◌, ◌<◌, ◌≡◌, ◌⊎◌, false, true, List, length}
use Rattle.job.specs.Limits as limit
use Rattle.rings.specs.Count.{sum_to, occ}
use Rattle.rings.specs.Links.{Linked}
use Rattle.rings.specs.Progress.{is_done}
use Rattle.store.specs.Field.{pt, rc, X, Y, NEXT, PREV, REC, OWNER, MARK, PRESENT, NONE, BLOCK, REASON, TAKER}
use Rattle.store.specs.Words.{Store, view}
use Rattle.store.specs.Sound.{Closed, due_at, pts, recs, ring_at, ringless}
use Rattle.store.specs.Reason.{JOINED, is_kept}

-- a point that a ring may have
pub record PointIn (s : Store) (k : ℕ) : Type 0 where
  pub below : k < pts s
  pub x_in : s (pt X) k ≤ 2 * limit.COORDINATE
  pub y_in : s (pt Y) k ≤ 2 * limit.COORDINATE
  pub record_in : s (pt REC) k < recs s

-- why a record has no ring is kept, and where it was joined into another, that is a record
pub record Explained (s : Store) (i : ℕ) : Type 0 where
  pub kept : is_kept (s (rc REASON) i) ≡ true
  pub taker : s (rc REASON) i ≡ JOINED → s (rc TAKER) i < recs s

-- a sound record
pub record Good (s : Store) (i : ℕ) : Type 0 where
  pub linked : Linked (s (pt NEXT)) (s (pt PREV)) (ring_at s i)
  pub points_in_lem : (k : ℕ) → 0 < occ k (ring_at s i) → PointIn s k
  pub owner : (s (rc OWNER) i ≡ NONE) ⊎ (s (rc OWNER) i < recs s)
  pub meant : Closed s i → s (rc MARK) i ≤ 4
  pub going : Closed s i → is_done (due_at s i) ≡ false → 0 < occ (s (rc PRESENT) i) (ring_at s i)
  pub explained : ringless s i ≡ true → Explained s i

-- how often k is on a ring
abbrev pub total : Store → ℕ → ℕ
total s k = sum_to (recs s) (λ i. occ k (ring_at s i))

pub record Sound (s : Store) : Type 0 where
  pub few_points : pts s ≤ limit.POINTS
  pub few_records : recs s ≤ limit.RECORDS
  pub good : (i : ℕ) → i < recs s → Good s i
  pub once : (k : ℕ) → total s k ≤ 1

-- a work space that is long enough and sound
pub record SoundWords (w : List ℕ) : Type 0 where
  pub long : BLOCK ≤ length w
  pub sound : Sound (view w)
