-- `owners::any_circle` meets its contract: the first chain that circles ends the loop.
use borrow.Author.Rules.{rules}
use Rattle.audit.proofs.Testing.{none}
use Rattle.owners.proofs.Following.{none_known, circle_hit, circle_more}
use Rattle.owners.proofs.any_circle.Goals as goal

pub loop-i-init : goal.loop-i-init
loop-i-init c = (none _, none_known _, search rules)

pub returns-then-m-gt-RECORDS : goal.returns-then-m-gt-RECORDS
returns-then-m-gt-RECORDS c = search (rules, circle_hit)

pub loop-i-preserved : goal.loop-i-preserved
loop-i-preserved c = (search (rules, circle_more), search rules, search rules)
