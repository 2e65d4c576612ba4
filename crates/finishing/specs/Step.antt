-- A step as a call: what it answers and the words that it leaves, on every work space and every record number.
use Rattle.std.specs.Prelude.{ℕ, List, Result, Ok, Err}
use Rattle.job.specs.declared.refusal.Refusal.{Refusal}
use Rattle.job.specs.declared.refusal.Refusal.TheVariants.{Full, OutOfTurn}
use Rattle.lone.specs.Forest.{Answer, ok, full, out_of_turn}
use Rattle.store.specs.Words.{view}
use Rattle.handed.specs.Handed.{handed_of}
use Rattle.audit.specs.Left.{Left, left}
use Rattle.acts.specs.Step.{answer_s}
use Rattle.turns.specs.Form.{raised, geometry_of}
use Rattle.boxed_steps.specs.Leaves.{step_leaves}

-- which of the table's rows each answer is: carried out, 10, 12. ("12 precedes it in a step": `answer_s` has that order)
abbrev pub stepped_as : Answer → Result (Unit {0}) Refusal
stepped_as ok = Ok tt
stepped_as full = Err Full
stepped_as out_of_turn = Err OutOfTurn

-- by what was found out about the work space: "A step .. first tests the work space it is handed"
abbrev pub step_by : Result (Unit {0}) Refusal → List ℕ → ℕ → Left
step_by (Err r) w i = left (Err r) w
step_by (Ok _) w i = left (stepped_as (answer_s (geometry_of (view w)) raised (view w) i)) (step_leaves (answer_s (geometry_of (view w)) raised (view w) i) w i)

-- `step`
unfoldable pub step_of : List ℕ → ℕ → Left
step_of w i = step_by (handed_of w) w i
