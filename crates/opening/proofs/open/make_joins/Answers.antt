-- `opening::open::make_joins` meets its contract: how the joins ended.
use borrow.Author.Rules.{rules}
use Rattle.std.proofs.lemmas.Result.{err_from_is_err_and}
use Rattle.opening.proofs.Passing.{made_long, made_few}
use Rattle.opening.proofs.Staging.{joins_done, joins_refused}
use Rattle.opening.proofs.open.make_joins.Goals as goal

pub start_rings-requires : goal.start_rings-requires
start_rings-requires c = search (rules, made_long, made_few)

pub returns : goal.returns
returns c = joins_done _ _ _ _ _ c.process_horz_joins.ensures _ c.in_ok-process_horz_joins.was c.start_rings.ensures

pub returns-in_err-process_horz_joins : goal.returns-in_err-process_horz_joins
returns-in_err-process_horz_joins c =
    let p = err_from_is_err_and c.from_residual.result c.from_residual.ensures.1 in
    rw (p.1, p.2) (joins_refused _ _ _ _ _ c.process_horz_joins.ensures _ c.in_err-process_horz_joins.was)
