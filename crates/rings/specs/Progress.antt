-- A closed ring and how far it is: the state of document 01's lone ring but for its offcuts, over any kind of element.
use Rattle.std.specs.Prelude.{Bool, true, false, List, [], map, ℕ}
use Rattle.std.proofs.Math.Option.{Option, none}
use Rattle.rings.specs.Circle.{spin}

-- the step due, or done: document 01's four kinds of step
pub data Due : Type 0 where
  validity removal triangle split done : Due

abbrev pub is_done : Due → Bool
is_done validity = false
is_done removal = false
is_done triangle = false
is_done split = false
is_done done = true

-- which rule discarded a ring: too small at the validity test; fell invalid while points were removed; area under 2.0 at a split
pub data Discard : Type 0 where
  at_validity while_removing at_split : Discard

-- the circle from the present place on; how far ahead of it the first point is; the same of the loop's start, none once it was cut away; the step due; which rule
-- discarded it, none while it has points
pub record Ring (A : Type 0) : Type 0 where
  pub circle : List A
  pub first : ℕ
  pub start : Option ℕ
  pub due : Due
  pub why : Option Discard

module _ {A : Type 0} where
  -- done, without points
  abbrev pub gone : Option Discard → Ring A
  gone y = record { circle = []; first = 0; start = none; due = done; why = y }

  -- outside the two loops nothing is remembered: the ring is its points from the first
  abbrev pub resting : Due → Option Discard → List A → Ring A
  resting d y c = record { circle = c; first = 0; start = none; due = d; why = y }

  -- a ring at its start
  abbrev pub at_start : List A → Ring A
  at_start c = resting validity none c

  abbrev pub tidy_at : List A → ℕ → Option ℕ → Due → Option Discard → Ring A
  tidy_at c f s validity y = resting validity y (spin f c)
  tidy_at c f s removal y = record { circle = c; first = f; start = s; due = removal; why = y }
  tidy_at c f s triangle y = resting triangle y (spin f c)
  tidy_at c f s split y = record { circle = c; first = f; start = s; due = split; why = y }
  tidy_at c f s done y = resting done y (spin f c)

  abbrev pub tidy : Ring A → Ring A
  tidy R = tidy_at R.circle R.first R.start R.due R.why

-- the same ring by other elements
abbrev pub map_ring : {A B : Type 0} → (A → B) → Ring A → Ring B
map_ring f R = record { circle = map f R.circle; first = R.first; start = R.start; due = R.due; why = R.why }
