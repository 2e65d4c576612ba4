-- `listing::put_closed` meets its contract.
use Rattle.listing.proofs.Heads.{area_asked, closed_poured}
use Rattle.listing.proofs.put_closed.Goals as goal

pub put_word-a-requires : goal.put_word-a-requires
put_word-a-requires c = area_asked _ _ _ c.requires _ c.area_in-area.ensures

pub put_signed-requires : goal.put_signed-requires
put_signed-requires c = area_asked _ _ _ c.requires _ c.area_in-area.ensures

pub returns : goal.returns
returns c = closed_poured _ _ _ c.requires _ c.area_in-area.ensures _ _ _ _ _ _ _ _ _ _ _ c.put_word-a.ensures c.put_decimal-b.ensures c.put-c.ensures c.put_signed.ensures
