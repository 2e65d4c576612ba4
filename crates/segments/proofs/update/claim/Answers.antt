-- `segments::update::claim` meets its contract.
use mathlib.Core.Path.{refl}
use Rattle.segments.proofs.Updates.{claim_none, claim_new, claim_old}
use Rattle.segments.proofs.update.claim.Goals as goal

pub returns-then-r-eq-NONE : goal.returns-then-r-eq-NONE
returns-then-r-eq-NONE c = claim_none _ _ c.if-r-eq-NONE.true

pub returns-then-marks-l-eq0 : goal.returns-then-marks-l-eq0
returns-then-marks-l-eq0 c = claim_new _ _ _ _ c.if-r-eq-NONE.false refl c.if-marks-l-eq0.true refl

pub returns : goal.returns
returns c = claim_old _ _ _ c.if-r-eq-NONE.false refl c.if-marks-l-eq0.false
