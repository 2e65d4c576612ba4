-- `cut_at` meets its contract.
use Rattle.turns.proofs.Decisions.{cut_is}
use Rattle.turns.proofs.decide.cut_at.Goals as goal

pub returns : goal.returns
returns c = search (cut_is)
