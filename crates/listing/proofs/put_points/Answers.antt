-- `listing::put_points` meets its contract: the points passed are poured.
use Rattle.listing.proofs.Runs.{showing_begins, showing_on}
use Rattle.listing.proofs.put_points.Goals as goal

pub loop-i-init : goal.loop-i-init
loop-i-init c = showing_begins _ _ _ _ _ c.requires

pub loop-i-preserved : goal.loop-i-preserved
loop-i-preserved c = showing_on _ _ _ _ _ _ _ _ _ _ c.loop-i.invariant _ _ c.loop-i-test.true c.put_point-k.ensures
