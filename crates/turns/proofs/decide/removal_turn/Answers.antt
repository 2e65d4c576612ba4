-- `removal_turn` meets its contract.
use Rattle.turns.proofs.Decisions.{turn_drops, turn_ends, turn_goes}
use Rattle.turns.proofs.decide.removal_turn.Goals as goal

pub returns-then-removable_at : goal.returns-then-removable_at
returns-then-removable_at c = search (turn_drops)

pub returns-then-n-s : goal.returns-then-n-s
returns-then-n-s c = search (turn_ends)

pub returns : goal.returns
returns c = search (turn_goes)
