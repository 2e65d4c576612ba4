-- `rays::level_way` meets its contract.
use borrow.Author.Rules.{rules}
use Rattle.rays.proofs.Tests.{level_here, level_along, level_stays}
use Rattle.rays.proofs.level_way.Goals as goal

pub returns-then-is_column : goal.returns-then-is_column
returns-then-is_column c = search (rules, level_here)

pub returns-then-is_level : goal.returns-then-is_level
returns-then-is_level c = search (rules, level_along)

pub returns : goal.returns
returns c = search (rules, level_stays)
