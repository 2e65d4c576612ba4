-- The forest of a store, whoever wrote it, and starts that no step can mix up.
use Rattle.std.specs.Prelude.{ℕ, ◌≤◌, ◌<◌, ◌⊎◌, cond, List, map}
use Rattle.rings.specs.Count.{table}
use Rattle.job.specs.Limits as limit
use Rattle.rings.specs.Progress.{Ring, map_ring}
use Rattle.lone.specs.Forest.{initial, Entry, open_ring, closed_ring, Forest}
use Rattle.lone.specs.Forest as forest
use Rattle.store.specs.Field.{rc, START, CUT}
use Rattle.store.specs.Words.{Store}
use Rattle.store.specs.Sound.{pts, recs, ringless, ring_at, is_open, lone_at}
use Rattle.acts.specs.Value.{value}
use Rattle.order.specs.Demand3.{named}

module _ {P : Type 0} (of : ℕ → ℕ → ℕ → P) where
  -- the forest of the store: each closed ring goes on from its progress, and has cut off and taken nothing yet
  abbrev pub entry_of : Store → ℕ → Entry (Ring P) (List P)
  entry_of s i = cond (ringless s i) forest.ringless (cond (is_open s i) (open_ring (map (value of s) (ring_at s i))) (closed_ring (named (s (rc CUT) i)) (initial (map_ring (value of s) (lone_at s i)))))

  abbrev pub forest_of : Store → Forest (Ring P) (List P)
  forest_of s = record { entries = table (entry_of s) 0 (recs s); points = pts s }

-- each start is a point in use, or a number that no point will ever have, as 65,535
abbrev pub Settled : Store → Type 0
Settled s = (i : ℕ) → i < recs s → (s (rc START) i < pts s) ⊎ (limit.POINTS ≤ s (rc START) i)
