-- Two lists of steps that both leave every closed ring done tell the same reasons, but for the numbers of records and places.
use Rattle.std.specs.Prelude.{◌≡◌, List, ◌∷◌, ℕ, ◌≤◌, ◌<◌}
use Rattle.store.specs.Words.{view}
use Rattle.store.specs.Sound.{recs}
use Rattle.telling.specs.declared.Reason.{Reason}
use Rattle.telling.specs.declared.Reason.TheVariants.{NoRing, Joined, SmallRing, RingFell, SmallArea, ShortPath, SmallPath, Written}
use Rattle.telling.specs.Telling.{reason_at}
use Rattle.finishing.specs.Run.{run_of}
use Rattle.order.specs.Demand3.{Same}

-- the reason without its number
abbrev pub kind_of : Reason → Reason
kind_of NoRing = NoRing
kind_of (Joined u) = Joined 0
kind_of SmallRing = SmallRing
kind_of RingFell = RingFell
kind_of SmallArea = SmallArea
kind_of ShortPath = ShortPath
kind_of SmallPath = SmallPath
kind_of (Written o place) = Written o 0

-- of the work space w as opening left it
pub record SameReasons (w is js : List ℕ) : Type 0 where
  -- the records that opening left
  pub records : (j : ℕ) → j < recs (view w) → kind_of (reason_at (view (run_of w is)) j) ≡ kind_of (reason_at (view (run_of w js)) j)
  -- and two offcuts that demand 3 matches (`Same`: by the ring that they were cut from, in cutting order)
  pub offcuts : (a b : ℕ) (xs ys : List ℕ) → recs (view w) ≤ a → a < recs (view (run_of w is)) → recs (view w) ≤ b → b < recs (view (run_of w js))
      → Same (view (run_of w is)) (view (run_of w js)) (a ∷ xs) (b ∷ ys) → kind_of (reason_at (view (run_of w is)) a) ≡ kind_of (reason_at (view (run_of w js)) b)
