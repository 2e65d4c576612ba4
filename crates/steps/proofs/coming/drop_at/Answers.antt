-- `drop_at` meets its contract.
use borrow.Author.Rules.{rules}
use Rattle.steps.proofs.Expecting.{dropped_reach, drops, discards}
use Rattle.steps.proofs.coming.drop_at.Goals as goal

pub drop_point-requires : goal.drop_point-requires
drop_point-requires c = search (dropped_reach, rules)

pub returns-then-valid_without : goal.returns-then-valid_without
returns-then-valid_without c = search drops

pub discard_ring-requires : goal.discard_ring-requires
discard_ring-requires c = search (dropped_reach, rules)

pub returns : goal.returns
returns c = search discards
