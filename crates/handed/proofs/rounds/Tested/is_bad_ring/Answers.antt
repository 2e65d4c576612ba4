-- is_bad_ring meets its contract: a round came back, met the present place where one is due, and its box is the one beside it.
use Rattle.handed.proofs.Gathering.{ring_same}
use Rattle.handed.proofs.rounds.Tested.is_bad_ring.Goals as goal

pub returns : goal.returns
returns c = search (ring_same c.in-Some.ensures)
