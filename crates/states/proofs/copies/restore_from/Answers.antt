-- restore_from meets its contract: what `copy_within` leaves.
use Rattle.states.proofs.Copying.{restored_is}
use Rattle.states.proofs.copies.restore_from.Goals as goal

pub returns : goal.returns
returns c = restored_is _ _ _ c.requires.0 c.requires.1 c.copy_at-at.ensures _ c.copy_within.ensures.after
