-- `crossed_turn` meets its contract.
use Rattle.turns.proofs.Decisions.{doubles, splits}
use Rattle.turns.proofs.decide.crossed_turn.Goals as goal

pub returns-then-segments_intersect : goal.returns-then-segments_intersect
returns-then-segments_intersect c = search (doubles)

pub returns : goal.returns
returns c = search (splits)
