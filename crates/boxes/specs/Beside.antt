-- What a step that is carried out makes of the boxes of a store's rings.
use Rattle.std.specs.Prelude.{ℕ, suc, ◌≤◌, ◌<◌, ◌≡◌, ◌≢◌}
use Rattle.std.proofs.Math.Option.{Option, none, some}
use Rattle.rings.specs.Progress.{Ring, map_ring}
use Rattle.geometry.specs.declared.Point.{Point}
use Rattle.geometry.specs.declared.Rect.{Rect}
use Rattle.geometry.specs.Box.{box_of}
use Rattle.lone.specs.Act.{Act}
use Rattle.lone.specs.Lone.{offcut_ring}
use Rattle.store.specs.Field.{rc, CUT}
use Rattle.store.specs.Words.{Store}
use Rattle.store.specs.Sound.{recs, lone_at}
use Rattle.store.specs.Boxes.{ring_box}
use Rattle.acts.specs.Value.{value}
use Rattle.acts.specs.Step.{act_at}
use Rattle.turns.specs.Form.{raised, geometry_of}
use Rattle.boxes.specs.Within.{BoxWithin}
use Rattle.boxes.specs.Acts.{kept_box}

-- record i's ring by value, and what a step on it does
abbrev pub ring_now : Store → ℕ → Ring Point
ring_now s i = map_ring (value raised.of s) (lone_at s i)

abbrev pub act_now : Store → ℕ → Act Point
act_now s i = act_at (geometry_of s) raised s i

-- the box of a step's offcut, if it has one: its three points'
abbrev pub box_of_offcut : Option (Ring Point) → Option Rect
box_of_offcut none = none
box_of_offcut (some O) = box_of O.circle

-- s: before a step on record i that is carried out, s': after it
pub record BoxesAfter (s s' : Store) (i : ℕ) : Type 0 where
  pub own : ring_box s' i ≡ kept_box (ring_box s i) (ring_now s i) (act_now s i)
  pub others : (j : ℕ) → j < recs s → j ≢ i → ring_box s' j ≡ ring_box s j
  pub new : recs s < recs s' → ring_box s' (recs s) ≡ box_of_offcut (offcut_ring (geometry_of s) (ring_now s i))

-- the record that a step made, and the one that it was cut from
pub record CutFrom (s s' : Store) : Type 0 where
  pub from : ℕ
  pub before : from < recs s
  pub word : s' (rc CUT) (recs s) ≡ from
  pub within : BoxWithin (ring_box s' (recs s)) (ring_box s from)

-- what any step makes of them, carried out or refused: no box passes the one before
pub record Shrinks (s s' : Store) : Type 0 where
  pub grows : recs s ≤ recs s'
  pub by_one : recs s' ≤ suc (recs s)
  pub ring : (j : ℕ) → j < recs s → BoxWithin (ring_box s' j) (ring_box s j)
  pub cut_kept : (j : ℕ) → j < recs s → s' (rc CUT) j ≡ s (rc CUT) j
  pub new : recs s < recs s' → CutFrom s s'
