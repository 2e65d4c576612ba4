-- `fields::put_header` meets its contract.
use Rattle.std.proofs.Common.{rules}
use Rattle.fields.proofs.Pours.{header_poured}
use Rattle.fields.proofs.put_header.Goals as goal

pub returns : goal.returns
returns c = search (rules, header_poured)
