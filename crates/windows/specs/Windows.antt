-- Document 02, Ask 13: "Any window, edges counted as inside, yields the records whose boxes meet it, ascending, none missing, in a lent list, and their count (11 if that is short, zero past them) ..
-- A window turned inside out meets nothing." The statement, of every work space that passes the tests; it is proved in proofs/Theorem.antt.
use Rattle.std.specs.Prelude.{ℕ, suc, ◌≤◌, ◌<◌, ◌≡◌, ◌↔◌, Bool, true, false, List, [], ◌∷◌, length}
use Rattle.std.proofs.Math.Option.{Option, none, some}
use Rattle.job.specs.Limits as limit
use Rattle.job.specs.declared.refusal.Refusal.TheVariants.{SmallTray}
use Rattle.rings.specs.Count.{occ}
use Rattle.geometry.specs.declared.Point.{Point}
use Rattle.geometry.specs.declared.Rect.{Rect}
use Rattle.store.specs.Words.{view}
use Rattle.store.specs.Sound.{recs}
use Rattle.store.specs.Boxes.{ring_box}
use Rattle.boxes.specs.Within.{InRect, BoxHolds}
use Rattle.std.specs.Prelude.{Ok, Err}
use Rattle.windows.specs.Window.{box_meets, inside_out}
use Rattle.windows.specs.RecordsIn.{passing, all_in, found, records_in}
use Rattle.paths.specs.Tray.{padded}

-- some place lies in the window and in the box of a ring, edges counted; a record without a ring has none
pub record Shared (window : Rect) (b : Option Rect) : Type 0 where
  pub place : Point
  pub in_window : InRect window place
  pub in_box : BoxHolds b place

-- the ring's own box, by its points, meets the window
abbrev pub ring_meets : Rect → Option Rect → Bool
ring_meets window none = false
ring_meets window (some b) = box_meets b window

-- each at least k, and above the one before
abbrev pub Rising : ℕ → List ℕ → Type 0
Rising k [] = Unit {0}
Rising k (x ∷ xs) = (k ≤ x) × Rising (suc x) xs

pub record Windows (w : List ℕ) (window : Rect) : Type 0 where
  -- the words beside the rings say what the rings' points would
  pub by_rings : all_in w window ≡ passing (λ i. ring_meets window (ring_box (view w) i)) (recs (view w))
  -- "the records whose boxes meet it .. none missing", and no other
  pub exactly : (j : ℕ) → (0 < occ j (all_in w window)) ↔ ((j < recs (view w)) × Shared window (ring_box (view w) j))
  -- "ascending", so each once
  pub rising : Rising 0 (all_in w window)
  -- "A window turned inside out meets nothing"
  pub turned_inside_out : inside_out window ≡ true → all_in w window ≡ []
  -- "in a lent list, and their count (11 if that is short, zero past them)"
  pub fits : (l : List ℕ) → length (all_in w window) ≤ length l → records_in w window l ≡ found (Ok (length (all_in w window))) (padded (length l) (all_in w window))
  pub short : (l : List ℕ) → length l < length (all_in w window) → records_in w window l ≡ found (Err SmallTray) l
  -- a list of this length is always long enough
  pub suffices : length (all_in w window) ≤ limit.RECORDS
