-- Lists of steps: "each on any record number, refused ones included. The first is handed the whole work space as opening left it, each later one as the
-- step before left it".
use Rattle.std.specs.Prelude.{ℕ, ◌+◌, Bool, true, false, cond, List, [], ◌∷◌, Result, Ok, Err}
use Rattle.job.specs.declared.refusal.Refusal.{Refusal}
use Rattle.rings.specs.Count.{one}
use Rattle.finishing.specs.Step.{step_of}

-- the work space after a list of steps
abbrev pub run_of : List ℕ → List ℕ → List ℕ
run_of w [] = w
run_of w (i ∷ is) = run_of (step_of w i).words is

abbrev pub is_granted : Result (Unit {0}) Refusal → Bool
is_granted (Ok _) = true
is_granted (Err r) = false

-- how many of the steps on record j were not refused
abbrev pub granted : List ℕ → List ℕ → ℕ → ℕ
granted w [] j = 0
granted w (i ∷ is) j = cond (is_granted (step_of w i).answer) (one j i) 0 + granted (step_of w i).words is j
