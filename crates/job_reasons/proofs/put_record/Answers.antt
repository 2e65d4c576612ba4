-- `put_record` meets its contract: the call tells the record.
use Rattle.job_reasons.proofs.Telling.{number_fits, record_told, never_refused}
use Rattle.job_reasons.proofs.put_record.Goals as goal

pub overflow_cast-i : goal.overflow_cast-i
overflow_cast-i c = search number_fits

pub returns-in-Ok : goal.returns-in-Ok
returns-in-Ok c = search record_told

pub returns-in-Err : goal.returns-in-Err
returns-in-Err c = search never_refused
