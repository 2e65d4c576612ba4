-- go_back meets its contract: what is found out first, then the place.
use borrow.Author.Rules.{rules}
use Rattle.std.proofs.lemmas.Result.{err_from_is_err_and}
use Rattle.states.proofs.Calling.{place_was, none_was, named, long_passed, back_refused, unknown_back, went_back}
use Rattle.states.proofs.go_back.Goals as goal

pub returns-in_err-handed : goal.returns-in_err-handed
returns-in_err-handed c =
    let p = err_from_is_err_and c.from_residual.result c.from_residual.ensures.1 in
    rw (p.1, p.2) (search (back_refused, c.in_err-handed.was))

pub place_of-requires : goal.place_of-requires
place_of-requires c = (search (long_passed, c.in_ok-handed.was), search rules)

pub returns-in_err-p : goal.returns-in_err-p
returns-in_err-p c =
    let p = err_from_is_err_and c.from_residual-in_err-p.result c.from_residual-in_err-p.ensures.1 in
    let n = none_was _ _ _ _ c.ok_or.ensures.value c.in_err-p.was in
    rw (p.1, p.2) (search (unknown_back, n, c.in_ok-handed.was))

pub restore_from-requires : goal.restore_from-requires
restore_from-requires c =
    let p = named _ _ _ c.place_of.ensures (place_was _ _ _ _ c.ok_or.ensures.value c.in_ok-p.was) in
    search (long_passed, c.in_ok-handed.was, p, rules)

pub returns : goal.returns
returns c =
    let p = place_was _ _ _ _ c.ok_or.ensures.value c.in_ok-p.was in
    search (went_back, c.in_ok-handed.was, p)
