-- `do_split_op` meets its contract.
use Rattle.turns.proofs.Decisions.{too_small, large}
use Rattle.turns.proofs.decide.do_split_op.Goals as goal

pub returns-then-unsigned_abs-lt4 : goal.returns-then-unsigned_abs-lt4
returns-then-unsigned_abs-lt4 c = search (too_small)

pub returns : goal.returns
returns c = search (large)
