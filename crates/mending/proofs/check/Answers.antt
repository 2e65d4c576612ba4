-- `mending::check` meets its contract: rows 1 to 5: read, then judged.
use Rattle.std.proofs.lemmas.Result.{err_from_is_err_and}
use Rattle.mending.proofs.Checking.{saw_filled, saw_judged, saw_refused}
use Rattle.mending.proofs.check.Goals as goal

pub first_rows-requires : goal.first_rows-requires
first_rows-requires c = saw_filled _ _ _ _ _ _ c.read_job.ensures _ c.requires c.in_ok-j.was

pub returns : goal.returns
returns c = saw_judged _ _ _ _ _ _ c.read_job.ensures _ _ c.in_ok-j.was c.first_rows.ensures

pub returns-in_err-j : goal.returns-in_err-j
returns-in_err-j c =
    let p = err_from_is_err_and c.from_residual.result c.from_residual.ensures.1 in
    rw (p.1, p.2) (saw_refused _ _ _ _ _ _ c.read_job.ensures _ c.in_err-j.was)
