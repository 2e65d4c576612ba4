-- `listing::listing` meets its contract.
use Rattle.listing.proofs.Telling.{told_all}
use Rattle.listing.proofs.listing.Goals as goal

pub returns : goal.returns
returns c = search told_all
