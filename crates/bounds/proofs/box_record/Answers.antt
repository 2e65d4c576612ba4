-- box_record meets its contract.
use Rattle.bounds.proofs.Beside.{past_is, here_is}
use Rattle.bounds.proofs.box_record.Goals as goal

pub returns-then-get-i : goal.returns-then-get-i
returns-then-get-i c = search past_is

pub returns : goal.returns
returns c = search here_is
