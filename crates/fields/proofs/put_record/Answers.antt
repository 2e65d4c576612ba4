-- `fields::put_record` meets its contract.
use Rattle.std.proofs.Common.{rules}
use Rattle.fields.proofs.Pours.{record_poured}
use Rattle.fields.proofs.put_record.Goals as goal

pub returns : goal.returns
returns c = search (rules, record_poured)
