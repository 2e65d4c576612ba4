-- keep meets its contract: what is found out first, then the place.
use borrow.Author.Rules.{rules}
use Rattle.std.proofs.lemmas.Result.{err_from_is_err_and}
use Rattle.states.proofs.Calling.{place_was, none_was, named, long_passed, keep_refused, no_place, kept}
use Rattle.states.proofs.keep.Goals as goal

pub returns-in_err-handed : goal.returns-in_err-handed
returns-in_err-handed c =
    let p = err_from_is_err_and c.from_residual.result c.from_residual.ensures.1 in
    rw (p.1, p.2) (search (keep_refused, c.in_err-handed.was))

pub keep_place-requires : goal.keep_place-requires
keep_place-requires c = (search (long_passed, c.in_ok-handed.was), search rules)

pub returns-in_err-p : goal.returns-in_err-p
returns-in_err-p c =
    let p = err_from_is_err_and c.from_residual-in_err-p.result c.from_residual-in_err-p.ensures.1 in
    let n = none_was _ _ _ _ c.ok_or.ensures.value c.in_err-p.was in
    rw (p.1, p.2) (search (no_place, n, c.in_ok-handed.was))

pub store_at-requires : goal.store_at-requires
store_at-requires c =
    let p = named _ _ _ c.keep_place.ensures (place_was _ _ _ _ c.ok_or.ensures.value c.in_ok-p.was) in
    search (long_passed, c.in_ok-handed.was, p, rules)

pub returns : goal.returns
returns c =
    let p = place_was _ _ _ _ c.ok_or.ensures.value c.in_ok-p.was in
    search (kept, c.in_ok-handed.was, p)
