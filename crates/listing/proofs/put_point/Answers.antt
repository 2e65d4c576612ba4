-- `listing::put_point` meets its contract.
use borrow.Author.Rules.{rules}
use Rattle.listing.proofs.Points.{point_poured}
use Rattle.listing.proofs.put_point.Goals as goal

pub returns : goal.returns
returns c = search (rules, point_poured)
