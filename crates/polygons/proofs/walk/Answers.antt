-- `polygons::walk` meets its contract.
use borrow.Author.Rules.{rules}
use Rattle.polygons.proofs.Going.{walking_met, walking_on, walking_ends}
use Rattle.polygons.proofs.walk.Goals as goal

pub returns-then-tour : goal.returns-then-tour
returns-then-tour c = search (rules, walking_met)

pub loop-i-preserved : goal.loop-i-preserved
loop-i-preserved c = search (rules, walking_on)

pub returns : goal.returns
returns c = search (rules, walking_ends)
