-- `step_tested` meets its contract.
use Rattle.std.proofs.lemmas.Result.{err_from_is_err_and}
use Rattle.finishing.proofs.Calls.{step_done, step_stopped}
use Rattle.finishing.proofs.step_tested.Goals as goal

pub returns-in_err-step_record : goal.returns-in_err-step_record
returns-in_err-step_record c =
    let p = err_from_is_err_and c.from_residual.result c.from_residual.ensures.1 in
    rw p.1 (step_stopped _ _ _ _ _ _ c.step_record.ensures c.in_err-step_record.was p.2)

pub returns : goal.returns
returns c = step_done _ _ _ _ _ c.step_record.ensures c.in_ok-step_record.was
