-- `put_records` meets its contract: the lines of the records passed are poured.
use borrow.Author.Rules.{rules}
use Rattle.job_reasons.proofs.Lines.{going_begins, going_on, going_ends}
use Rattle.job_reasons.proofs.Telling.{long_enough}
use Rattle.job_reasons.proofs.put_records.Goals as goal

pub get-n-requires : goal.get-n-requires
get-n-requires c = search (long_enough, rules)

pub loop-i-init : goal.loop-i-init
loop-i-init c = going_begins _ _

pub loop-i-preserved : goal.loop-i-preserved
loop-i-preserved c = search going_on

pub returns : goal.returns
returns c = search going_ends
