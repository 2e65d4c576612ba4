-- `rows::rest_of_rows` meets its contract: row 5 beside the points, and the last rows.
use borrow.Author.Rules.{rules}
use Rattle.rows.proofs.Judging.{beside_refused, beside_passed, no_6}
use Rattle.rows.proofs.rest_of_rows.Goals as goal

pub returns-then-no_such_beside : goal.returns-then-no_such_beside
returns-then-no_such_beside c = search (rules, beside_refused)

pub ring_rows-requires : goal.ring_rows-requires
ring_rows-requires c = (search rules, search (rules, beside_passed))

pub returns : goal.returns
returns c = search (rules, no_6)
