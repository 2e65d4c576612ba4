-- `listing::put_counts` meets its contract.
use Rattle.listing.proofs.Telling.{counts_poured}
use Rattle.listing.proofs.put_counts.Goals as goal

pub returns : goal.returns
returns c = counts_poured c.args.closed c.args.opened _ _ _ _ _ _ _ _ _ _ _ c.put_text-a.ensures c.put_decimal-b.ensures c.put_text-c.ensures c.put_decimal-d.ensures c.put.ensures
