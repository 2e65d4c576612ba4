-- `listing::put_head` meets its contract.
use Rattle.listing.proofs.Heads.{open_head}
use Rattle.listing.proofs.put_head.Goals as goal

pub returns-then-opened : goal.returns-then-opened
returns-then-opened c = open_head c.args.t.now _ c.args.from c.args.rev _ _ _ _ _ _ _ c.if-opened.true c.put_text-a.ensures c.put_decimal.ensures
