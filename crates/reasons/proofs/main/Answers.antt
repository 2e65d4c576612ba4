-- There is room for the text.
use Rattle.reasons.proofs.Saying.{room}
use Rattle.reasons.proofs.main.Goals as goal

pub say-requires : goal.say-requires
say-requires c = room _ _ _ _ _ _ _ c.tell_job-a.ensures
