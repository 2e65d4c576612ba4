-- In step, and as opening and our own steps leave a store: `Rep` is `InStep` with two facts more.
use Rattle.std.specs.Prelude.{ℕ, ◌≤◌, ◌<◌, ◌≡◌, Bool, true, false, List, length}
use Rattle.rings.specs.Progress.{Due, validity, removal, triangle, split, done, Ring}
use Rattle.lone.specs.Forest.{Forest, at, cut_from}
use Rattle.store.specs.Field.{rc, START, CUT, BLOCK}
use Rattle.store.specs.Words.{Store, view}
use Rattle.store.specs.Sound.{pts, recs, due_at, Closed}
use Rattle.acts.specs.Apply.{Coding}
use Rattle.acts.specs.InStep.{or_none, InStep}

-- the two loops: only there is a start remembered
abbrev pub in_loop : Due → Bool
in_loop validity = false
in_loop removal = true
in_loop triangle = false
in_loop split = true
in_loop done = false

-- record i has a closed ring in a loop
abbrev pub Looped : Store → ℕ → Type 0
Looped s i = Closed s i × (in_loop (due_at s i) ≡ true)

pub record Rep {P : Type 0} (of : ℕ → ℕ → ℕ → P) (s : Store) (F : Forest (Ring P) (List P)) : Type 0 where
  pub in_step : InStep of s F
  -- a loop's start is a point in use
  pub starts : (i : ℕ) → Looped s i → s (rc START) i < pts s
  -- only a closed ring names one that it was cut from
  pub cuts : (i : ℕ) → i < recs s → s (rc CUT) i ≡ or_none (cut_from (at F.entries i))

-- the same of words
pub record RepW {P : Type 0} (f : Coding P) (w : List ℕ) (F : Forest (Ring P) (List P)) : Type 0 where
  pub long : BLOCK ≤ length w
  pub rep : Rep f.of (view w) F
