-- `step_ring` meets its contract.
use borrow.Author.Rules.{rules}
use Rattle.steps.proofs.Steps.{applies, went, no_room, foretold, not_told, goes}
use Rattle.steps.proofs.step.step_ring.Goals as goal

pub may_change-changes-requires : goal.may_change-changes-requires
may_change-changes-requires c = search goes

pub apply-requires : goal.apply-requires
apply-requires c = search (applies, rules)

pub returns-then-has_room : goal.returns-then-has_room
returns-then-has_room c = (search went, search foretold)

pub returns : goal.returns
returns c = (search no_room, not_told _ _)
