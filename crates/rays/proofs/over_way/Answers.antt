-- `rays::over_way` meets its contract.
use mathlib.Core.Path.{refl}
use Rattle.rays.proofs.Tests.{over_touches, over_crosses, over_passes}
use Rattle.rays.proofs.over_way.Goals as goal

pub returns-then-d-eq0 : goal.returns-then-d-eq0
returns-then-d-eq0 c = over_touches _ _ c.ranges.d c.if-d-eq0.true

pub returns-then-d-above : goal.returns-then-d-above
returns-then-d-above c = over_crosses _ _ c.ranges.d c.if-d-eq0.false _ refl c.if-d-above.true

pub returns : goal.returns
returns c = over_passes _ _ c.ranges.d c.if-d-eq0.false _ refl c.if-d-above.false
