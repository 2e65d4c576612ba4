-- `rays::way_of` meets its contract.
use borrow.Author.Rules.{rules}
use Rattle.rays.proofs.Tests.{way_level, way_stays, way_over}
use Rattle.rays.proofs.way_of.Goals as goal

pub returns-then-is_level : goal.returns-then-is_level
returns-then-is_level c = search (rules, way_level)

pub returns-then-is_above-above : goal.returns-then-is_above-above
returns-then-is_above-above c = search (rules, way_stays)

pub returns : goal.returns
returns c = search (rules, way_over)
