-- `rays::over` meets its contract.
use borrow.Author.Rules.{rules}
use Rattle.rays.proofs.Tests.{over_passed, over_crossed}
use Rattle.rays.proofs.over.Goals as goal

pub returns-then-is_right : goal.returns-then-is_right
returns-then-is_right c = search (rules, over_passed)

pub returns-then-is_left : goal.returns-then-is_left
returns-then-is_left c = search (rules, over_crossed)
