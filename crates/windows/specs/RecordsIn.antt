-- The call `records_in`: what it answers and the list that it leaves, on every work space, window and list.
use Rattle.std.specs.Prelude.{ℕ, zero, suc, ◌+◌, Bool, cond, not, ◌&&◌, List, [], ◌∷◌, ◌++◌, ltb, length, set, Result, Ok, Err}
use Rattle.job.specs.declared.refusal.Refusal.{Refusal}
use Rattle.job.specs.declared.refusal.Refusal.TheVariants.{SmallTray}
use Rattle.geometry.specs.declared.Rect.{Rect}
use Rattle.store.specs.Words.{view}
use Rattle.store.specs.Named.{records_of}
use Rattle.store.specs.Sound.{ringless}
use Rattle.store.specs.Boxes.{box_at}
use Rattle.handed.specs.Handed.{handed_of}
use Rattle.paths.specs.Tray.{padded}
use Rattle.windows.specs.Window.{box_meets}

-- record i has a ring, and the box beside it meets the window
unfoldable pub is_in : List ℕ → Rect → ℕ → Bool
is_in w window i = not (ringless (view w) i) && box_meets (box_at w i) window

abbrev pub once : Bool → ℕ
once b = cond b 1 0

-- of the numbers below n, those that pass a test, ascending
abbrev pub passing : (ℕ → Bool) → ℕ → List ℕ
passing q zero = []
passing q (suc i) = cond (q i) (passing q i ++ (i ∷ [])) (passing q i)

-- "the records whose boxes meet it, ascending, none missing"
unfoldable pub all_in : List ℕ → Rect → List ℕ
all_in w window = passing (is_in w window) (records_of w)

-- the place after what is in the list, and the list
pub data Placed : Type 0 where
  placed : ℕ → List ℕ → Placed

abbrev pub place_if : Bool → ℕ → ℕ → List ℕ → Placed
place_if b i at l = cond b (placed (at + 1) (set l at i)) (placed at l)

-- the answer, and the list that is left
pub record FoundIn : Type 0 where
  pub answer : Result ℕ Refusal
  pub list : List ℕ

abbrev pub found : Result ℕ Refusal → List ℕ → FoundIn
found a l = record { answer = a; list = l }

-- "in a lent list, and their count (11 if that is short, zero past them)"
abbrev pub listing : List ℕ → List ℕ → FoundIn
listing records l = cond (ltb (length l) (length records)) (found (Err SmallTray) l) (found (Ok (length records)) (padded (length l) records))

-- by what was found out about the work space: every refusal leaves the list as found
abbrev pub records_by : Result (Unit {0}) Refusal → List ℕ → Rect → List ℕ → FoundIn
records_by (Err r) w window l = found (Err r) l
records_by (Ok _) w window l = listing (all_in w window) l

-- `records_in`
unfoldable pub records_in : List ℕ → Rect → List ℕ → FoundIn
records_in w window l = records_by (handed_of w) w window l
