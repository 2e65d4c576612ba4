-- `tell_records` meets its contract.
use Rattle.job_reasons.proofs.Lines.{with_room, without_room}
use Rattle.job_reasons.proofs.tell_records.Goals as goal

pub returns-then-k-out : goal.returns-then-k-out
returns-then-k-out c = search with_room

pub returns-else-k-out : goal.returns-else-k-out
returns-else-k-out c = search without_room
