-- `charge::put_charge` meets its contract.
use Rattle.listing.proofs.Charging.{charge_poured}
use Rattle.listing.proofs.charge.put_charge.Goals as goal

pub returns : goal.returns
returns c = charge_poured c.args.c _ _ _ _ _ _ _ _ _ _ _ _ c.put_text-a.ensures c.put_decimal-b.ensures c.put-d.ensures c.put_decimal-e.ensures c.put.ensures
