-- records_in meets its contract: what is found out first, then the list.
use Rattle.std.proofs.lemmas.Result.{err_from_is_err_and}
use Rattle.windows.proofs.Listing.{in_sound, in_passed, in_refused}
use Rattle.windows.proofs.records_in.Goals as goal

pub in_tested-requires : goal.in_tested-requires
in_tested-requires c = search (in_sound, c.in_ok-handed.was)

pub returns : goal.returns
returns c = search (in_passed, c.in_ok-handed.was)

pub returns-in_err-handed : goal.returns-in_err-handed
returns-in_err-handed c =
    let p = err_from_is_err_and c.from_residual.result c.from_residual.ensures.1 in
    rw (p.1, p.2) (search (in_refused, c.in_err-handed.was))
