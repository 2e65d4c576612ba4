-- `opening::open::stages` meets its contract: what rows 1 to 8 say.
use borrow.Author.Rules.{rules}
use Rattle.std.proofs.lemmas.Result.{err_from_is_err_and}
use Rattle.opening.proofs.Passing.{may_convert}
use Rattle.opening.proofs.Staging.{with_places, rows_passed, rows_refused}
use Rattle.opening.proofs.open.stages.Goals as goal

pub join_all-requires : goal.join_all-requires
join_all-requires c = (may_convert _ _ _ _ _ _ c.requires _ (with_places _ _ _ _ _ _ c.accept.ensures) c.in_ok-j.was, search rules)

pub returns : goal.returns
returns c = rows_passed _ _ _ _ _ _ c.accept.ensures _ _ c.in_ok-j.was c.join_all.ensures

pub returns-in_err-j : goal.returns-in_err-j
returns-in_err-j c =
    let p = err_from_is_err_and c.from_residual.result c.from_residual.ensures.1 in
    rw (p.1, p.2) (rows_refused _ _ _ _ _ _ c.accept.ensures _ c.in_err-j.was)
