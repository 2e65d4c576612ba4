-- `fields::put_segment` meets its contract.
use Rattle.std.proofs.Common.{rules}
use Rattle.fields.proofs.Pours.{segment_poured}
use Rattle.fields.proofs.put_segment.Goals as goal

pub returns : goal.returns
returns c = search (rules, segment_poured)
