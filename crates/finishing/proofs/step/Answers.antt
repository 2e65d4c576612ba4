-- `step` meets its contract: what is found out first, then the step.
use Rattle.std.proofs.lemmas.Result.{err_from_is_err_and}
use Rattle.finishing.proofs.Calls.{usable, step_refused, step_passed}
use Rattle.finishing.proofs.step.Goals as goal

pub returns-in_err-handed : goal.returns-in_err-handed
returns-in_err-handed c =
    let p = err_from_is_err_and c.from_residual.result c.from_residual.ensures.1 in
    rw (p.1, p.2) (search (step_refused, c.in_err-handed.was))

pub step_tested-requires : goal.step_tested-requires
step_tested-requires c = search (usable, c.in_ok-handed.was)

pub returns : goal.returns
returns c = search (step_passed, c.in_ok-handed.was)
