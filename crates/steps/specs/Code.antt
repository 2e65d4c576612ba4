-- The code's names for the answers and how finishing ends.
use Rattle.std.specs.Prelude.{ℕ, List, Result, Ok, Err, ⊤}
use Rattle.job.specs.declared.refusal.Refusal.{Refusal}
use Rattle.job.specs.declared.refusal.Refusal.TheVariants as refusal
use Rattle.lone.specs.Forest.{ok, full, out_of_turn}
use Rattle.lone.specs.Forest as forest
use Rattle.acts.specs.Finish as acts
use Rattle.acts.specs.Finish.{rings_done, rings_full}
use Rattle.steps.specs.declared.StepError.{StepError}
use Rattle.steps.specs.declared.StepError.TheVariants.{Full, OutOfTurn}
use Rattle.steps.specs.declared.RingsFull.{RingsFull}

abbrev pub error_is : StepError → forest.Answer
error_is Full = full
error_is OutOfTurn = out_of_turn

abbrev pub answer_is : {A : Type 0} → Result A StepError → forest.Answer
answer_is (Ok x) = ok
answer_is (Err e) = error_is e

-- the table's row of each
abbrev pub refusal_is : StepError → Refusal
refusal_is Full = refusal.Full
refusal_is OutOfTurn = refusal.OutOfTurn

-- how finishing ends, with the words left
abbrev pub end_is : Result ⊤ RingsFull → List ℕ → acts.RingsEnd
end_is (Ok x) w = rings_done w
end_is (Err x) w = rings_full w
