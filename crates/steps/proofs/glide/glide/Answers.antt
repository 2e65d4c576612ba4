-- `glide` meets its contract.
use Rattle.steps.proofs.Gliding.{not_going}
use Rattle.steps.proofs.glide.glide.Goals as goal

pub returns : goal.returns
returns c = search not_going
