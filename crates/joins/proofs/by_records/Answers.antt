-- `joins::by_records` meets its contract.
use Rattle.joins.proofs.Turns.{by_same, by_two}
use Rattle.joins.proofs.by_records.Goals as goal

pub returns-then-i-j : goal.returns-then-i-j
returns-then-i-j c = search by_same

pub returns : goal.returns
returns c = search by_two
