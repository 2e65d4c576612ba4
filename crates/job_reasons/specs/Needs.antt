-- The work spaces whose records can all be told, and what the loop over them keeps.
use Rattle.std.specs.Prelude.{◌≡◌, false, List, ℕ, ◌≤◌, ◌<◌, Ok}
use Rattle.store.specs.Words.{Store, view}
use Rattle.store.specs.Sound.{recs}
use Rattle.steps.specs.Live.{any_live}
use Rattle.handed.specs.Handed.{handed_of}
use Rattle.text.specs.Pour.{poured, pour}
use Rattle.job_reasons.specs.Lines.{lines_below}

-- it passes the tests, and every closed ring is done
pub record Tellable (w : List ℕ) : Type 0 where
  pub tested : handed_of w ≡ Ok tt
  pub done : any_live (view w) ≡ false

-- and record i is one of its own
pub record TellableAt (w : List ℕ) (i : ℕ) : Type 0 where
  pub work : Tellable w
  pub known : i < recs (view w)

-- the lines of the records below i are poured
pub record Going (s : Store) (out₀ out : List ℕ) (k i : ℕ) : Type 0 where
  pub is : poured k out ≡ pour (lines_below s i) 0 out₀
  pub within : i ≤ recs s
