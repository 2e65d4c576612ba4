-- `listing::put_listing` meets its contract.
use Rattle.listing.proofs.Telling.{listing_poured}
use Rattle.listing.proofs.put_listing.Goals as goal

pub returns : goal.returns
returns c = listing_poured c.args.rev c.args.closed c.args.opened _ _ _ c.args.t.now _ _ _ _ _ c.put_counts-a.ensures c.put_lines-b.ensures.1 c.put_lines-b.ensures.0 c.put_lines.ensures.1
