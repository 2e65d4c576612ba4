-- `charge::net_area` meets its contract: the sum so far and the areas left come to the sum of all.
use Rattle.listing.proofs.Charging.{netting_fits, netting_on}
use Rattle.listing.proofs.charge.net_area.Goals as goal

pub overflow_add-a : goal.overflow_add-a
overflow_add-a c = netting_fits _ _ _ _ _ c.loop-i.a-bits c.loop-i.invariant c.loop-i-test.true _ c.value_length-length.ensures.0 c.value_length-length.ensures.1 _ c.area_in-e.ensures

pub loop-i-preserved : goal.loop-i-preserved
loop-i-preserved c = netting_on _ _ _ _ _ c.loop-i.a-bits c.loop-i.invariant c.loop-i-test.true _ c.value_length-length.ensures.0 c.value_length-length.ensures.1 _ c.area_in-e.ensures
