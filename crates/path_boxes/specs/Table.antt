-- A table of boxes: what is put there, and what is known of one that is filled; no statement needs it.
use Rattle.std.specs.Prelude.{ℕ, zero, suc, ◌-◌, ◌<◌, ◌≤◌, ◌≡◌, List, pos, length, get_or, set}
use Rattle.std.proofs.Math.Option.{Option, none, some}
use Rattle.geometry.specs.declared.Rect.{Rect}
use Rattle.geometry.specs.Box.{box_of}
use Rattle.listing.specs.Fields.{next_field, path_in, field_after}
use Rattle.listing.specs.Needs.{FieldsIn}
use Rattle.containing.specs.Outside.{AllEnclosed}

-- the box of a path of no points: zeros
abbrev pub nowhere : Rect
nowhere = record { left = pos 0; top = pos 0; right = pos 0; bottom = pos 0 }

-- box number j, and the table with another there
abbrev pub rect_at : List Rect → ℕ → Rect
rect_at boxes j = get_or boxes j nowhere

abbrev pub put_rect : List Rect → ℕ → Rect → List Rect
put_rect boxes j b = set boxes j b

-- a path of no points has no box, and zeros do
abbrev pub or_nowhere : Option Rect → Rect
or_nowhere none = nowhere
or_nowhere (some b) = b

-- the boxes of n fields of a tray, from f on, at numbers from i on
abbrev pub filled : List ℕ → ℕ → ℕ → ℕ → List Rect → List Rect
filled t zero i f boxes = boxes
filled t (suc n) i f boxes = filled t n (suc i) (next_field t f) (put_rect boxes i (or_nowhere (box_of (path_in t f))))

-- each of the first c paths of a tray lies within its box
pub record Boxed (t : List ℕ) (boxes : List Rect) (c : ℕ) : Type 0 where
  pub long : c ≤ length boxes
  pub each : (j : ℕ) → j < c → AllEnclosed (rect_at boxes j) (path_in t (field_after t j 0))

-- a table of n boxes in the making, which comes to `total`: i boxes are in, and field number i begins at f
pub record Filling (t : List ℕ) (c n : ℕ) (total boxes : List Rect) (f i : ℕ) : Type 0 where
  pub low : i ≤ c
  pub size : length boxes ≡ n
  pub long : c ≤ n
  pub rest : FieldsIn t (c - i) f
  pub all : filled t (c - i) i f boxes ≡ total
