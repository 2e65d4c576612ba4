-- `geometry::same_point` meets its contract: equal bits are equal numbers.
use Rattle.geometry.proofs.Coordinates.{same_of}
use Rattle.geometry.proofs.same_point.Goals as goal

pub returns : goal.returns
returns c = same_of c.args.p c.args.q (record { sfits = c.struct_told-1.given.0.1 }) (record { sfits = c.struct_told-4-1.given.0.1 }) (record { sfits = c.struct_told-1.given.1.0.1 }) (record { sfits = c.struct_told-4-1.given.1.0.1 })
