-- `fields::put_point` meets its contract.
use Rattle.std.proofs.Common.{rules}
use Rattle.fields.proofs.Pours.{point_poured}
use Rattle.fields.proofs.put_point.Goals as goal

pub returns : goal.returns
returns c = search (rules, point_poured)
