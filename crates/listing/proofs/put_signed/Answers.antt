-- `listing::put_signed` meets its contract.
use Rattle.listing.proofs.Signs.{minus_poured}
use Rattle.listing.proofs.put_signed.Goals as goal

pub returns-then-z-lt0 : goal.returns-then-z-lt0
returns-then-z-lt0 c = minus_poured _ c.requires _ _ _ c.unsigned_abs-n.ensures.value _ _ _ _ c.if-z-lt0.true c.put-k.ensures c.put_decimal.ensures
