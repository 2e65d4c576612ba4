-- `listing::put_line` meets its contract.
use Rattle.listing.proofs.Heads.{line_poured}
use Rattle.listing.proofs.put_line.Goals as goal

pub returns : goal.returns
returns c = line_poured _ _ c.requires _ c.value_length-n.ensures.0 c.value_length-n.ensures.1 c.args.rev c.args.opened c.args.at _ _ _ c.args.out.now _ _ _ c.put_head-a.ensures c.put_points-b.ensures c.put.ensures
