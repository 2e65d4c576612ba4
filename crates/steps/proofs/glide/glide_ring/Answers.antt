-- `glide_ring` meets its contract: by the step due.
use Rattle.steps.proofs.Gliding.{stays}
use Rattle.steps.proofs.glide.glide_ring.Goals as goal

pub returns-in-Validity : goal.returns-in-Validity
returns-in-Validity c = search stays
