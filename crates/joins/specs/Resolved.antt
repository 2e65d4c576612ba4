-- The invariant of opening while it joins: every point is on a ring and resolves to its ring's record (so no two records share a ring), and a record without a ring keeps why.
use Rattle.std.specs.Prelude.{ℕ, ◌*◌, ◌≤◌, ◌<◌, ◌≡◌, ◌⊎◌, true, List, length}
use Rattle.job.specs.Limits as limit
use Rattle.rings.specs.Count.{occ}
use Rattle.rings.specs.Whole.{Whole}
use Rattle.store.specs.Field.{pt, rc, X, Y, NEXT, PREV, REC, OWNER, REASON, TAKER, NONE, BLOCK}
use Rattle.store.specs.Reason.{NO_RING, JOINED}
use Rattle.store.specs.Words.{Store, view}
use Rattle.store.specs.Sound.{pts, recs, ringless, ring_at}
use Rattle.store.specs.Good.{total}
use Rattle.joins.specs.Paths.{Resolves}

-- why a record has no ring: the job has none for it, or a record took it in a join
abbrev pub Emptied : Store → ℕ → Type 0
Emptied s i = (s (rc REASON) i ≡ NO_RING) ⊎ ((s (rc REASON) i ≡ JOINED) × (s (rc TAKER) i < recs s))

pub record Resolved (s : Store) : Type 0 where
  pub few_points : pts s ≤ limit.POINTS
  pub few_records : recs s ≤ limit.RECORDS
  pub whole : (i : ℕ) → i < recs s → Whole (s (pt NEXT)) (s (pt PREV)) (pts s) (ring_at s i)
  pub home : (i k : ℕ) → i < recs s → 0 < occ k (ring_at s i) → Resolves s (s (pt REC) k) i
  pub placed : (k : ℕ) → k < pts s → 0 < total s k
  pub x_in : (k : ℕ) → k < pts s → s (pt X) k ≤ 2 * limit.COORDINATE
  pub y_in : (k : ℕ) → k < pts s → s (pt Y) k ≤ 2 * limit.COORDINATE
  pub owner_in : (i : ℕ) → i < recs s → (s (rc OWNER) i ≡ NONE) ⊎ (s (rc OWNER) i < recs s)
  pub emptied : (i : ℕ) → i < recs s → ringless s i ≡ true → Emptied s i

-- the same of words of the fixed length or more
pub record Ready (w : List ℕ) : Type 0 where
  pub long : BLOCK ≤ length w
  pub resolved : Resolved (view w)
