-- `rows::in_order` meets its contract: rows 4 and 5, then the later ones.
use mathlib.Core.Path.{sym, ◌∙◌}
use Rattle.std.proofs.lemmas.Result.{err_from_is_err_and}
use Rattle.rows.proofs.Judging.{first_refused}
use Rattle.rows.proofs.in_order.Goals as goal

pub returns-in_err-first_rows : goal.returns-in_err-first_rows
returns-in_err-first_rows c =
    let p = err_from_is_err_and c.from_residual.result c.from_residual.ensures.1 in
    let e = sym c.first_rows.ensures ∙ c.in_err-first_rows.was in
    rw (p.1, p.2) (search first_refused)
