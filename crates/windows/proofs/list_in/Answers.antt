-- list_in meets its contract.
use borrow.Author.Rules.{rules}
use Rattle.windows.proofs.Listing.{listing_here, listing_room, listing_next, listing_ends}
use Rattle.windows.proofs.list_in.Goals as goal

pub list_one-at-requires : goal.list_one-at-requires
list_one-at-requires c = search (rules, listing_here, listing_room)

pub loop-i-preserved : goal.loop-i-preserved
loop-i-preserved c = search listing_next

pub returns : goal.returns
returns c = search listing_ends
