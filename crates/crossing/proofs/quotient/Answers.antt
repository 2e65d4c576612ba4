-- `crossing::quotient` meets its contract.
use Rattle.crossing.specs.Floats.{quotient_f}
use Rattle.crossing.proofs.quotient.Goals as goal

pub returns-then-num : goal.returns-then-num
unfolding quotient_f
returns-then-num c = rw c.if-num.true

pub returns : goal.returns
unfolding quotient_f
returns c = rw c.if-num.false
