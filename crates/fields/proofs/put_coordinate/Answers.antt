-- `fields::put_coordinate` meets its contract.
use Rattle.std.proofs.Common.{rules}
use Rattle.fields.proofs.Pours.{coordinate_poured}
use Rattle.fields.proofs.put_coordinate.Goals as goal

pub returns : goal.returns
returns c = search (rules, coordinate_poured)
