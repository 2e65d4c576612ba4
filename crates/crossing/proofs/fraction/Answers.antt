-- `crossing::fraction` meets its contract.
use Rattle.crossing.specs.Floats.{fraction_f}
use Rattle.crossing.proofs.fraction.Goals as goal

pub returns-then-det : goal.returns-then-det
unfolding fraction_f
returns-then-det c = rw c.if-det.true

pub returns-then-first : goal.returns-then-first
unfolding fraction_f
returns-then-first c = rw (c.if-det.false, c.if-first.true)

pub returns-then-first-2 : goal.returns-then-first-2
unfolding fraction_f
returns-then-first-2 c = rw (c.if-det.false, c.if-first.false, c.if-first-2.true)

pub returns : goal.returns
unfolding fraction_f
returns c = rw (c.if-det.false, c.if-first.false, c.if-first-2.false, c.quotient.ensures)
