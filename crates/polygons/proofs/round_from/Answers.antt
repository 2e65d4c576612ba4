-- `polygons::round_from` meets its contract.
use borrow.Author.Rules.{rules}
use Rattle.polygons.proofs.Going.{held_at, run_after, last_held, run_back, started, wrapped, round_is}
use Rattle.polygons.proofs.round_from.Goals as goal

pub start-a-requires : goal.start-a-requires
start-a-requires c = search (rules, held_at)

pub walk-b-requires : goal.walk-b-requires
walk-b-requires c = search (rules, held_at, run_after, started)

pub walk-c-requires : goal.walk-c-requires
walk-c-requires c = search (rules, last_held, run_back, wrapped)

pub returns : goal.returns
returns c = search (rules, round_is)
