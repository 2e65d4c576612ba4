-- box_records meets its contract: after record i the boxes of the records so far are written.
use borrow.Author.Rules.{rules}
use Rattle.bounds.proofs.Beside.{boxing_begun, boxing_next, boxing_ends}
use Rattle.bounds.proofs.box_records.Goals as goal

pub loop-i-init : goal.loop-i-init
loop-i-init c = search (boxing_begun, rules)

pub loop-i-preserved : goal.loop-i-preserved
loop-i-preserved c = search boxing_next

pub returns : goal.returns
returns c = search boxing_ends
