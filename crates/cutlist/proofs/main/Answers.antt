-- There is room for the text.
use Rattle.cutlist.proofs.Saying.{room}
use Rattle.cutlist.proofs.main.Goals as goal

pub say-requires : goal.say-requires
say-requires c = room _ _ _ _ _ _ _ _ c.list_job-a.ensures
