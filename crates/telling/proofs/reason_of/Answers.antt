-- `reason_of` meets its contract: what is found out first, then the reason.
use Rattle.std.proofs.lemmas.Result.{err_from_is_err_and}
use Rattle.telling.proofs.Tells.{sound, refused, passed}
use Rattle.telling.proofs.reason_of.Goals as goal

pub reason_tested-requires : goal.reason_tested-requires
reason_tested-requires c = search (sound, c.in_ok-handed.was)

pub returns : goal.returns
returns c = search (passed, c.in_ok-handed.was)

pub returns-in_err-handed : goal.returns-in_err-handed
returns-in_err-handed c =
    let p = err_from_is_err_and c.from_residual.result c.from_residual.ensures.1 in
    rw (p.1, p.2) (search (refused, c.in_err-handed.was))
