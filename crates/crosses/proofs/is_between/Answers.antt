-- `is_between` meets its contract.
use Rattle.crosses.proofs.Crossed.{between_above, between_below, between_none}
use Rattle.crosses.proofs.is_between.Goals as goal

pub returns-then-t-gt0 : goal.returns-then-t-gt0
returns-then-t-gt0 c = between_above c.ranges.t c.ranges.cp c.if-t-gt0.true

pub returns-then-t-lt0 : goal.returns-then-t-lt0
returns-then-t-lt0 c = between_below c.ranges.t c.ranges.cp c.if-t-gt0.false c.if-t-lt0.true

pub returns : goal.returns
returns c = between_none c.ranges.t c.ranges.cp c.if-t-gt0.false c.if-t-lt0.false
