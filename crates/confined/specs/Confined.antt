-- Document 02, Ask 13, "Show too that, while only our calls write, no step lets a ring, or an offcut from it, pass the box which that ring had at its start". The statement, on the entry points' own
-- definitions; it is proved in proofs/Theorem.antt of every start.
use Rattle.std.specs.Prelude.{ℕ, ◌<◌, ◌≡◌, cond, List, [], ◌∷◌, ◌++◌, ltb}
use Rattle.std.proofs.Math.Option.{Option}
use Rattle.geometry.specs.declared.Rect.{Rect}
use Rattle.store.specs.Field.{rc, CUT}
use Rattle.store.specs.Words.{Store, view}
use Rattle.store.specs.Sound.{recs}
use Rattle.store.specs.Boxes.{ring_box}
use Rattle.finishing.specs.Step.{step_of}
use Rattle.finishing.specs.Run.{run_of}
use Rattle.boxes.specs.Within.{BoxWithin}

-- the box which record j's ring had at its start, of the work space w and a list of steps: right after opening, or right after the step that cut it off, which is where j first is a record
abbrev pub start_box : List ℕ → List ℕ → ℕ → Option Rect
start_box w [] j = ring_box (view w) j
start_box w (i ∷ is) j = cond (ltb j (recs (view w))) (ring_box (view w) j) (start_box (step_of w i).words is j)

-- record j is p, an offcut of p, an offcut of such an offcut, and so on: by the words that say what a ring was cut from
pub data Descends (s : Store) : ℕ → ℕ → Type 0 where
  itself : (j : ℕ) → j < recs s → Descends s j j
  is_cut_from : (j q p : ℕ) → j < recs s → s (rc CUT) j ≡ q → Descends s q p → Descends s j p

-- w: the work space as opening left it
module _ (w : List ℕ) where
  -- the store after steps
  abbrev pub store_at : List ℕ → Store
  store_at is = view (run_of w is)

  pub record BoxesKept (is : List ℕ) : Type 0 where
    -- "no step lets a ring .. pass the box which that ring had at its start": any record's, open ones too
    pub ring : (j : ℕ) → j < recs (store_at is) → BoxWithin (ring_box (store_at is) j) (start_box w is j)
    -- "or an offcut from it": at its own start, and so ever after
    pub offcut : (j p : ℕ) → j < recs (store_at is) → p < recs (store_at is) → store_at is (rc CUT) j ≡ p → BoxWithin (start_box w is j) (start_box w is p)
    -- both, with the offcuts' offcuts: nothing that descends from a ring passes the box which that ring had at its start
    pub descendants : (j p : ℕ) → Descends (store_at is) j p → BoxWithin (ring_box (store_at is) j) (start_box w is p)
    -- and a box only gets smaller, whatever steps follow
    pub smaller : (js : List ℕ) (j : ℕ) → j < recs (store_at is) → BoxWithin (ring_box (store_at (is ++ js)) j) (ring_box (store_at is) j)

  -- after every list of steps
  abbrev pub Confined : Type 0
  Confined = (is : List ℕ) → BoxesKept is
