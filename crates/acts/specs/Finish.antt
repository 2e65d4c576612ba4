-- Finishing in one call, on words: every ring stepped until it is done, in rising record order, offcuts as they come; it ends where a step is full.
-- The forest's finishing (crate lone) goes the same way.
use Rattle.std.specs.Prelude.{ℕ, zero, suc, List}
use Rattle.job.specs.Limits.{POINTS, RECORDS}
use Rattle.lone.specs.Lone.{Geo}
use Rattle.lone.specs.Forest.{Answer, ok, full, out_of_turn}
use Rattle.lone.specs.Rounds.{enough}
use Rattle.store.specs.Words.{view}
use Rattle.acts.specs.Apply.{Coding}
use Rattle.acts.specs.Step.{Outcome, outcome, answer_s, step_w}

-- how finishing the rings ends, and the words left: all are done, or a step was refused as full
pub data RingsEnd : Type 0 where
  rings_done : List ℕ → RingsEnd
  rings_full : List ℕ → RingsEnd

-- the rest is done unless a step was full
abbrev pub and_then : Outcome → (List ℕ → RingsEnd) → RingsEnd
and_then (outcome ok w) k = k w
and_then (outcome full w) k = rings_full w
and_then (outcome out_of_turn w) k = k w

module _ {P : Type 0} (G : Geo P) (f : Coding P) where
  -- steps on record i until one is refused, with the answer to the next one; n: more than are ever needed
  abbrev pub steps_by_w : ℕ → Answer → List ℕ → ℕ → Outcome
  steps_by_w zero a w i = outcome a w
  steps_by_w (suc n) ok w i = steps_by_w n (answer_s G f (view (step_w G f w i)) i) (step_w G f w i) i
  steps_by_w (suc n) full w i = outcome full w
  steps_by_w (suc n) out_of_turn w i = outcome out_of_turn w

  -- record i stepped until it is done (refused as out of turn), or until a step is full
  unfoldable pub finish_record : List ℕ → ℕ → Outcome
  finish_record w i = steps_by_w (enough POINTS) (answer_s G f (view w) i) w i

  -- the same on m records from number i on; on a number that is no record's the first step is refused
  abbrev pub finish_from_w : ℕ → List ℕ → ℕ → RingsEnd
  finish_from_w zero w i = rings_done w
  finish_from_w (suc m) w i = and_then (finish_record w i) (λ (w' : List ℕ). finish_from_w m w' (suc i))

  -- all records
  unfoldable pub finish_w : List ℕ → RingsEnd
  finish_w w = finish_from_w RECORDS w 0
