-- `decide_due` meets its contract.
use Rattle.turns.proofs.Decisions.{at_validity_lem, at_removal, at_triangle, at_split_lem, at_done}
use Rattle.turns.proofs.decide.decide_due.Goals as goal

pub returns-in-Validity : goal.returns-in-Validity
returns-in-Validity c = search (at_validity_lem)

pub returns-in-Removal : goal.returns-in-Removal
returns-in-Removal c = search (at_removal)

pub returns-in-Triangle : goal.returns-in-Triangle
returns-in-Triangle c = search (at_triangle)

pub returns-in-Split : goal.returns-in-Split
returns-in-Split c = search (at_split_lem)

pub returns-in-Done : goal.returns-in-Done
returns-in-Done c = search (at_done)
