-- `laying::lay_together` meets its contract: lengths, then the first's tests.
use Rattle.std.proofs.lemmas.Result.{err_from_is_err_and}
use Rattle.laying.proofs.Calls.{passed_sound, first_short, second_short, first_passed, first_refused}
use Rattle.laying.proofs.lay_together.Goals as goal

pub returns-then-first-lt-LENGTH : goal.returns-then-first-lt-LENGTH
returns-then-first-lt-LENGTH c = search first_short

pub returns-then-second-lt-LENGTH : goal.returns-then-second-lt-LENGTH
returns-then-second-lt-LENGTH c = search second_short

pub lay_first-requires : goal.lay_first-requires
lay_first-requires c = search (passed_sound, c.in_ok-tested.was)

pub returns : goal.returns
returns c = search (first_passed, c.in_ok-tested.was)

pub returns-in_err-tested : goal.returns-in_err-tested
returns-in_err-tested c =
    let p = err_from_is_err_and c.from_residual.result c.from_residual.ensures.1 in
    rw (p.1, p.2) (search (first_refused, c.in_err-tested.was))
