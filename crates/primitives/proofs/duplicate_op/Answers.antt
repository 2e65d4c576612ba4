-- `primitives::duplicate_op` meets its contract.
use Rattle.primitives.proofs.Taking.{doubled_after, doubled_before, no_double}
use Rattle.primitives.proofs.duplicate_op.Goals as goal
use Rattle.primitives.proofs.duplicate_op.Goals.{then-after, else-after}

pub returns-then-k-ge-POINTS : goal.returns-then-k-ge-POINTS
returns-then-k-ge-POINTS c = search no_double

pub returns : goal.returns
returns c = elim c.if-after.branch [ then-after w ↦ search doubled_after | else-after w ↦ search doubled_before ]
