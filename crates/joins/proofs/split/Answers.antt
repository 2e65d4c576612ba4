-- `joins::split` meets its contract.
use Rattle.joins.proofs.Turns.{split_yes, split_no}
use Rattle.joins.proofs.split.Goals as goal

pub returns-then-k-lt-RECORDS : goal.returns-then-k-lt-RECORDS
returns-then-k-lt-RECORDS c = search split_yes

pub returns : goal.returns
returns c = search split_no
