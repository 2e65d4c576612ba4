-- record_sides meets its contract.
use borrow.Author.Rules.{rules}
use Rattle.bounds.proofs.Walking.{bare_sides, ring_sides_are, none_small}
use Rattle.bounds.proofs.record_sides.Goals as goal

pub returns-then-a-eq-NONE : goal.returns-then-a-eq-NONE
returns-then-a-eq-NONE c = (search bare_sides, none_small)

pub returns : goal.returns
returns c = (search ring_sides_are, search rules)
