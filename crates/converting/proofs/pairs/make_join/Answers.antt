-- `converting::pairs::make_join` meets its contract.
use borrow.Author.Rules.{rules}
use Rattle.converting.proofs.Making.{making_beside, making_second, making_low, making_room, make_done, make_full}
use Rattle.converting.proofs.pairs.make_join.Goals as goal

pub duplicate_op-requires : goal.duplicate_op-requires
duplicate_op-requires c = making_beside _ _ _ _ _ c.requires

pub second-requires : goal.second-requires
second-requires c = (making_second _ _ _ _ _ c.requires _ _ _ c.duplicate_op.ensures c.in_ok-k.was, making_room _ _ _ _ _ c.requires _ _ _ c.duplicate_op.ensures c.in_ok-k.was, making_low _ _ _ _ _ c.requires _ _ _ c.duplicate_op.ensures c.in_ok-k.was)

pub returns : goal.returns
returns c = make_done _ _ _ _ _ c.requires _ _ _ _ _ _ c.duplicate_op.ensures c.in_ok-k.was c.second.ensures

pub returns-in_err-k : goal.returns-in_err-k
returns-in_err-k c = rw c.from_residual.ensures (make_full _ _ _ _ _ c.requires _ _ c.duplicate_op.ensures c.in_err-k.was)
