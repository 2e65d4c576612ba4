-- `rows::later_rows` meets its contract: row 6, and the last rows.
use Rattle.std.proofs.Common.{◌≡◌}
use borrow.Author.Rules.{rules}
use Rattle.store.specs.Named.{points_of}
use Rattle.audit.specs.Tests.{any_below, loose}
use Rattle.rows.proofs.Judging.{row_6, last_is}
use Rattle.rows.proofs.later_rows.Goals as goal

pub returns-then-any_point : goal.returns-then-any_point
returns-then-any_point c = search (rules, row_6)

pub returns : goal.returns
returns c =
    let e : c.any_point.result ≡ any_below (points_of c.args.w.now) (loose c.args.w.now) = search rules in
    last_is _ _ _ _ _ c.requires.1 _ e _ c.if-any_point.false c.ring_rows.ensures
