-- `crossing::strictly_within` meets its contract.
use Rattle.crossing.specs.Floats.{strictly_within_f}
use Rattle.crossing.proofs.strictly_within.Goals as goal

pub returns-then-t : goal.returns-then-t
unfolding strictly_within_f
returns-then-t c = rw c.if-t.true

pub returns-then-t-2 : goal.returns-then-t-2
unfolding strictly_within_f
returns-then-t-2 c = rw (c.if-t.false, c.if-t-2.true)

pub returns : goal.returns
unfolding strictly_within_f
returns c = rw (c.if-t.false, c.if-t-2.false)
