-- `converting::pairs::second` meets its contract.
use borrow.Author.Rules.{rules}
use native.Mathlib.Omega.{arith}
use Rattle.converting.proofs.Doubling.{beside}
use Rattle.converting.proofs.Making.{doubled_low}
use Rattle.converting.proofs.pairs.second.Goals as goal

pub duplicate_op-requires : goal.duplicate_op-requires
duplicate_op-requires c = beside _ _ c.requires.0

pub put_point-requires-2 : goal.put_point-requires-2
put_point-requires-2 c = (search rules, omega (arith, doubled_low _ _ _ c.requires.0 _ _ _ c.duplicate_op.ensures c.in_ok-j.was))
