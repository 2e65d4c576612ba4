-- `split_turn` meets its contract.
use Rattle.turns.proofs.Decisions.{crosses, moves}
use Rattle.turns.proofs.decide.split_turn.Goals as goal

pub returns-then-segments_intersect : goal.returns-then-segments_intersect
returns-then-segments_intersect c = search (crosses)

pub returns : goal.returns
returns c = search (moves)
