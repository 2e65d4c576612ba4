-- is_bad_record meets its contract: without a ring nothing is marked; with one, its ring is no earlier record's and passes.
use Rattle.handed.proofs.Gathering.{record_bare}
use Rattle.handed.proofs.rounds.Tested.is_bad_record.Goals as goal

pub returns-then-a-eq-NONE : goal.returns-then-a-eq-NONE
returns-then-a-eq-NONE c = search record_bare
