-- `rewriting::writing::put_records` meets its contract: the records below i are written.
use borrow.Author.Rules.{rules}
use Rattle.rewriting.proofs.Laying.{laid_begun, laid_on}
use Rattle.rewriting.proofs.writing.put_records.Goals as goal

pub loop-i-init : goal.loop-i-init
loop-i-init c = laid_begun _ _ _ _

pub loop-i-preserved : goal.loop-i-preserved
loop-i-preserved c = search (rules, laid_on)
