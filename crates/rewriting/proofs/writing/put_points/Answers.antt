-- `rewriting::writing::put_points` meets its contract: the rings of the records below i are written.
use borrow.Author.Rules.{rules}
use Rattle.rewriting.proofs.Laying.{rings_begun, rings_on}
use Rattle.rewriting.proofs.writing.put_points.Goals as goal

pub loop-i-init : goal.loop-i-init
loop-i-init c = rings_begun _ _ _ _

pub loop-i-preserved : goal.loop-i-preserved
loop-i-preserved c = search (rules, rings_on)
