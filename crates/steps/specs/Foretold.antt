-- What a step tells of its ring's box before it is carried out.
use Rattle.std.specs.Prelude.{ℕ, ◌≡◌, Bool, List, Result, Ok}
use Rattle.store.specs.Field.{rc, PRESENT}
use Rattle.store.specs.Words.{view}
use Rattle.store.specs.Boxes.{sides_at}
use Rattle.acts.specs.Step.{act_at}
use Rattle.turns.specs.Form.{raised, geometry_of}
use Rattle.boxes.specs.AtHand.{changes_at}
use Rattle.steps.specs.declared.StepError.{StepError}

-- of record i, by the words w before the step: whether its act may change the box that its words say
pub record Foretold (w : List ℕ) (i : ℕ) (r : Result Bool StepError) : Type 0 where
  pub told : (changes : Bool) → r ≡ Ok changes → changes ≡ changes_at (sides_at w i) (view w) (view w (rc PRESENT) i) (act_at (geometry_of (view w)) raised (view w) i)
