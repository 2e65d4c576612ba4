-- any_bad_record meets its contract: the first record that has something that fails ends the loop.
use Rattle.handed.proofs.Gathering.{records_none, records_more}
use Rattle.handed.proofs.rounds.any_bad_record.Goals as goal

pub loop-i-init : goal.loop-i-init
loop-i-init c = records_none _ _

pub loop-i-preserved : goal.loop-i-preserved
loop-i-preserved c = search records_more
