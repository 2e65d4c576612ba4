-- `mending::mend` meets its contract: rows 1 to 5, then mended.
use Rattle.mending.proofs.Passing.{may_fix, mend_fixed, mend_refused}
use borrow.Author.Rules.{rules}
use Rattle.std.proofs.lemmas.Result.{err_from_is_err_and}
use Rattle.mending.proofs.mend.Goals as goal

pub fix-requires : goal.fix-requires
fix-requires c = search (rules, may_fix, c.in_ok-check.was)

pub returns : goal.returns
returns c = search (rules, mend_fixed, c.in_ok-check.was)

pub returns-in_err-check : goal.returns-in_err-check
returns-in_err-check c =
    let p = err_from_is_err_and c.from_residual.result c.from_residual.ensures.1 in
    rw (p.1, p.2) (search (mend_refused, c.in_err-check.was))
