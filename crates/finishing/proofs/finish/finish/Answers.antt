-- `finish` meets its contract.
use Rattle.finishing.proofs.InOneCall.{may_finish, job_accepted, job_refused}
use Rattle.finishing.proofs.finish.finish.Goals as goal

pub finish_opened-requires : goal.finish_opened-requires
finish_opened-requires c = search may_finish

pub returns-in-Ok : goal.returns-in-Ok
returns-in-Ok c = search job_accepted

pub returns-in-Err : goal.returns-in-Err
returns-in-Err c = search job_refused
