-- `laying::lay_first` meets its contract: the second's tests.
use borrow.Author.Rules.{rules}
use Rattle.std.proofs.lemmas.Result.{err_from_is_err_and}
use Rattle.laying.proofs.Calls.{passed_sound, second_passed, second_refused}
use Rattle.laying.proofs.lay_first.Goals as goal

pub returns-in_err-tested : goal.returns-in_err-tested
returns-in_err-tested c =
    let p = err_from_is_err_and c.from_residual.result c.from_residual.ensures.1 in
    rw (p.1, p.2) (search (second_refused, c.in_err-tested.was))

pub lay_tested-requires : goal.lay_tested-requires
lay_tested-requires c = (search rules, search (passed_sound, c.in_ok-tested.was))

pub returns : goal.returns
returns c = search (second_passed, c.in_ok-tested.was)
