-- `cut` meets its contract.
use Rattle.applying.proofs.Applying.{off_fits}
use Rattle.applying.proofs.cut.Goals as goal

pub make_offcut-requires : goal.make_offcut-requires
make_offcut-requires c = off_fits _ _ _ _ _ _ _ _ c.get-x.ensures.0 c.get-y.ensures.0 c.cut_itself.ensures _ c.requires c.if-off.true
