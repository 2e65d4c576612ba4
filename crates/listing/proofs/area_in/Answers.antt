-- `listing::area_in` meets its contract: the sum so far and the edges left come to the area.
use Rattle.listing.proofs.Runs.{none_area, adding_begins, adding_fits, adding_on}
use Rattle.listing.proofs.area_in.Goals as goal

pub returns-then-n-eq0 : goal.returns-then-n-eq0
returns-then-n-eq0 c = none_area _ _ _ c.if-n-eq0.true

pub loop-i-init : goal.loop-i-init
loop-i-init c = adding_begins _ _ _ c.requires.0 c.requires.1 c.if-n-eq0.false

pub overflow_add-a : goal.overflow_add-a
overflow_add-a c = adding_fits _ _ _ _ _ c.loop-i.a-bits _ c.loop-i.invariant _ c.edge_in-a.ensures c.loop-i-test.true

pub loop-i-preserved : goal.loop-i-preserved
loop-i-preserved c = adding_on _ _ _ _ _ c.loop-i.a-bits _ c.loop-i.invariant _ c.edge_in-a.ensures c.loop-i-test.true
