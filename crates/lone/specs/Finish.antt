-- Finishing in one call: every ring stepped until it is done, in rising record order, offcuts as they come.
use Rattle.std.specs.Prelude.{ℕ, zero, suc}
use Rattle.lone.specs.Forest.{Machine, Answer, ok, full, out_of_turn, Forest, answer, step_forest}
use Rattle.lone.specs.Rounds.{enough}

module _ {S X : Type 0} (M : Machine S) (lp lr : ℕ) where
  -- steps on record i until one is refused, with the answer to the next one; f: more than are ever needed
  abbrev pub steps_by : ℕ → Answer → Forest S X → ℕ → Forest S X
  steps_by zero a F i = F
  steps_by (suc f) ok F i = steps_by f (answer M lp lr (step_forest M lp lr F i) i) (step_forest M lp lr F i) i
  steps_by (suc f) full F i = F
  steps_by (suc f) out_of_turn F i = F

  unfoldable pub steps_on : ℕ → Forest S X → ℕ → Forest S X
  steps_on f F i = steps_by f (answer M lp lr F i) F i

  -- the same on n records from number i on; on a number that is no record's the first step is refused
  abbrev pub finish_from : ℕ → ℕ → Forest S X → ℕ → Forest S X
  finish_from f zero F i = F
  finish_from f (suc n) F i = finish_from f n (steps_on f F i) (suc i)

unfoldable pub finish_forest : {S X : Type 0} → Machine S → ℕ → ℕ → Forest S X → Forest S X
finish_forest M lp lr F = finish_from M lp lr (enough lp) lr F 0
