-- `rewriting::stages` meets its contract: what rows 1 to 8 say.
use Rattle.std.proofs.lemmas.Result.{err_from_is_err_and}
use Rattle.rewriting.proofs.Ends.{may_write, rows_passed, rows_refused}
use Rattle.rewriting.proofs.stages.Goals as goal

pub write_job-requires : goal.write_job-requires
write_job-requires c = may_write _ _ _ _ _ c.requires _ c.accept.ensures _ c.in_ok-j.was

pub returns : goal.returns
returns c = rows_passed _ _ _ _ _ c.requires _ c.accept.ensures _ _ _ _ c.in_ok-j.was c.write_job.ensures

pub returns-in_err-j : goal.returns-in_err-j
returns-in_err-j c =
    let p = err_from_is_err_and c.from_residual.result c.from_residual.ensures.1 in
    rw (p.1, p.2) (rows_refused _ _ _ _ _ c.requires _ c.accept.ensures _ _ c.in_err-j.was)
