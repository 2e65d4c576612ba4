-- `joins::join` meets its contract.
use Rattle.joins.proofs.Turns.{points_pair, join_knot, join_on}
use Rattle.joins.proofs.join.Goals as goal

pub returns-then-n-op2 : goal.returns-then-n-op2
returns-then-n-op2 c = search join_knot

pub by_records-requires : goal.by_records-requires
by_records-requires c = search points_pair

pub returns : goal.returns
returns c = search join_on
