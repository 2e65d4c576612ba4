-- `step_coming` meets its contract: by what comes next.
use Rattle.steps.proofs.Expecting.{comes_none}
use Rattle.steps.proofs.coming.step_coming.Goals as goal

pub returns-in-Nothing : goal.returns-in-Nothing
returns-in-Nothing c = search comes_none
