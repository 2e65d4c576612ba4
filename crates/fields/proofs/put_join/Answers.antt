-- `fields::put_join` meets its contract.
use Rattle.std.proofs.Common.{rules}
use Rattle.fields.proofs.Pours.{join_poured}
use Rattle.fields.proofs.put_join.Goals as goal

pub returns : goal.returns
returns c = search (rules, join_poured)
