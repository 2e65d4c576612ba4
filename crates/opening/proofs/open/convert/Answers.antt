-- `opening::open::convert` meets its contract: how the segments ended.
use borrow.Author.Rules.{rules}
use Rattle.std.proofs.lemmas.Result.{err_from_is_err_and}
use Rattle.opening.proofs.Passing.{may_join}
use Rattle.opening.proofs.Staging.{some_joins, no_joins, segments_done, segments_full}
use Rattle.opening.proofs.open.convert.Goals as goal

pub make_joins-requires : goal.make_joins-requires
make_joins-requires c = may_join _ _ _ _ _ _ _ _ _ c.requires c.convert_horz_segs_to_joins.ensures (some_joins _ _ _ c.ok_or.ensures.value c.in_ok-k.was)

pub returns : goal.returns
returns c = segments_done _ _ _ _ _ _ _ _ c.convert_horz_segs_to_joins.ensures _ _ (some_joins _ _ _ c.ok_or.ensures.value c.in_ok-k.was) c.make_joins.ensures

pub returns-in_err-k : goal.returns-in_err-k
returns-in_err-k c =
    let n = no_joins _ _ _ c.ok_or.ensures.value c.in_err-k.was in
    let p = err_from_is_err_and c.from_residual.result c.from_residual.ensures.1 in
    rw (p.1, p.2, n.1) (segments_full _ _ _ _ _ _ _ _ c.convert_horz_segs_to_joins.ensures n.0)
