-- `valid_without` meets its contract.
use Rattle.turns.proofs.Decisions.{valid_1, valid_2, valid_3, valid_4, valid_5}
use Rattle.turns.proofs.decide.valid_without.Goals as goal

pub returns-then-a-x : goal.returns-then-a-x
returns-then-a-x c = search (valid_1)

pub returns-then-b-x : goal.returns-then-b-x
returns-then-b-x c = search (valid_2)

pub returns-then-c-x : goal.returns-then-c-x
returns-then-c-x c = search (valid_3)

pub returns-then-e-x : goal.returns-then-e-x
returns-then-e-x c = search (valid_4)

pub returns : goal.returns
returns c = search (valid_5)
