-- The forest that opening makes: each record of the store as opening leaves it.
use Rattle.std.specs.Prelude.{ℕ, ◌≡◌, false, cond, List, map}
use Rattle.rings.specs.Count.{table}
use Rattle.rings.specs.Progress.{Ring, at_start}
use Rattle.lone.specs.Forest.{Fed, left_ringless, left_open, left_closed}
use Rattle.store.specs.Field.{rc, MARK, CUT, NONE}
use Rattle.store.specs.Words.{Store}
use Rattle.store.specs.Sound.{recs, ringless, ring_at, is_open}
use Rattle.acts.specs.Value.{value}

-- a record at its start: cut from none, and of a closed ring the validity test is due. No more is asked of an open ring, nor of a record without one
pub record Fresh (s : Store) (i : ℕ) : Type 0 where
  pub cut_is : s (rc CUT) i ≡ NONE
  pub mark_is : ringless s i ≡ false → is_open s i ≡ false → s (rc MARK) i ≡ 0

module _ {P : Type 0} (of : ℕ → ℕ → ℕ → P) (s : Store) where
  abbrev pub opened_at : ℕ → Fed (Ring P) (List P)
  opened_at i = cond (ringless s i) left_ringless (cond (is_open s i) (left_open (map (value of s) (ring_at s i))) (left_closed (at_start (map (value of s) (ring_at s i)))))

  -- what opening left
  abbrev pub records : List (Fed (Ring P) (List P))
  records = table opened_at 0 (recs s)
