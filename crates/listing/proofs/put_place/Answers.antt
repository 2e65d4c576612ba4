-- `listing::put_place` meets its contract.
use Rattle.listing.proofs.Points.{place_poured}
use Rattle.listing.proofs.put_place.Goals as goal

pub returns : goal.returns
returns c = place_poured _ _ _ c.requires c.point_in-p.ensures _ _ _ _ _ _ _ _ _ _ c.put-a.ensures c.put_signed-b.ensures c.put-c.ensures c.put_signed.ensures
