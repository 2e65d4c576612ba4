-- `rows::plainly` meets its contract: a table that knows nothing is right, and no chain circles.
use mathlib.Core.Path.{refl}
use borrow.Author.Rules.{rules}
use Rattle.rows.proofs.Judging.{plain_found}
use Rattle.visits.proofs.Reaching.{homes_blank}
use Rattle.rows.proofs.plainly.Goals as goal

pub last_rows-requires : goal.last_rows-requires
last_rows-requires c = (search rules, search rules, homes_blank _ _ 1 refl, search (rules, plain_found))
