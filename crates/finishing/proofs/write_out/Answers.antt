-- `write_out` meets its contract: what is found out first, then the paths.
use Rattle.std.proofs.lemmas.Result.{err_from_is_err_and}
use Rattle.finishing.proofs.Calls.{tested, write_refused, write_passed}
use Rattle.finishing.proofs.write_out.Goals as goal

pub returns-in_err-handed : goal.returns-in_err-handed
returns-in_err-handed c =
    let p = err_from_is_err_and c.from_residual.result c.from_residual.ensures.1 in
    rw (p.1, p.2) (search (write_refused, c.in_err-handed.was))

pub write_tested-requires : goal.write_tested-requires
write_tested-requires c = search (tested, c.in_ok-handed.was)

pub returns : goal.returns
returns c = search (write_passed, c.in_ok-handed.was)
