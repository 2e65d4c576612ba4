-- `tell_job` meets its contract.
use Rattle.job_reasons.proofs.Telling.{may_tell, job_told, job_refused}
use Rattle.job_reasons.proofs.tell_job.Goals as goal

pub tell_records-requires : goal.tell_records-requires
tell_records-requires c = search may_tell

pub returns-in-Ok : goal.returns-in-Ok
returns-in-Ok c = search job_told

pub returns-in-Err : goal.returns-in-Err
returns-in-Err c = search job_refused
