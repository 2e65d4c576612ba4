-- `geometry::pts_really_close` meets its contract.
use Rattle.geometry.proofs.Coordinates.{both_close}
use Rattle.geometry.proofs.pts_really_close.Goals as goal

pub returns : goal.returns
returns c = both_close c.args.pt1 c.args.pt2 (record { sfits = c.struct_told-1.given.0.1 }) (record { sfits = c.struct_told-4-1.given.0.1 }) (record { sfits = c.struct_told-1.given.1.0.1 }) (record { sfits = c.struct_told-4-1.given.1.0.1 }) c.close.ensures
    c.close-2.ensures
