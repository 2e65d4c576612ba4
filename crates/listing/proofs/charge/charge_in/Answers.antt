-- `charge::charge_in` meets its contract: the sum is small enough for the product.
use Rattle.listing.proofs.Charging.{magnitude_small}
use Rattle.listing.proofs.charge.charge_in.Goals as goal

pub charge_of-requires : goal.charge_of-requires
charge_of-requires c = (magnitude_small _ _ c.requires.0 _ c.net_area-net.ensures _ c.unsigned_abs.ensures.value, c.requires.1)
