-- A start of lists of steps: a work space as opening leaves it.
use Rattle.std.specs.Prelude.{ℕ, ◌≤◌, ◌<◌, List, length}
use Rattle.store.specs.Field.{LENGTH}
use Rattle.store.specs.Words.{view}
use Rattle.store.specs.Sound.{recs}
use Rattle.store.specs.Good.{Sound}
use Rattle.store.specs.States.{Apart}
use Rattle.store.specs.Boxes.{Boxed}
use Rattle.acts.specs.Opened.{Fresh}

-- it passes the tests (audit, `Usable`): long enough, sound, each ring's box beside it, no name kept twice; and each record is at its start: "opening sets each closed ring .. at its start"
pub record Start (w : List ℕ) : Type 0 where
  pub long : LENGTH ≤ length w
  pub sound : Sound (view w)
  pub boxed : (i : ℕ) → i < recs (view w) → Boxed w i
  pub apart : Apart w
  pub fresh : (i : ℕ) → i < recs (view w) → Fresh (view w) i
