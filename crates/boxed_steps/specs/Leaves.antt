-- The words that a step leaves: document 02, "Keep the least and greatest x and y of each ring that has points .. right after opening and every step, cut".
use Rattle.std.specs.Prelude.{ℕ, List}
use Rattle.lone.specs.Forest.{Answer, ok, full, out_of_turn}
use Rattle.store.specs.Words.{view}
use Rattle.store.specs.Sound.{recs}
use Rattle.store.specs.Boxes.{boxed_at}
use Rattle.acts.specs.Step.{Outcome, outcome, answer_s, step_w}
use Rattle.turns.specs.Form.{raised, geometry_of}

-- by the answer: the box of the ring that was stepped is beside it, and that of a ring that it cut off. A refused step leaves every word
abbrev pub step_leaves : Answer → List ℕ → ℕ → List ℕ
step_leaves ok w i = boxed_at (boxed_at (step_w (geometry_of (view w)) raised w i) i) (recs (view w))
step_leaves full w i = w
step_leaves out_of_turn w i = w

-- the answer and the words
unfoldable pub boxed_step : List ℕ → ℕ → Outcome
boxed_step w i = outcome (answer_s (geometry_of (view w)) raised (view w) i) (step_leaves (answer_s (geometry_of (view w)) raised (view w) i) w i)
