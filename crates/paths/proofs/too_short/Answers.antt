-- `paths::too_short` meets its contract.
use borrow.Author.Rules.{rules}
use Rattle.paths.proofs.Walks.{round_here}
use Rattle.paths.proofs.Sizes.{short_one, short_open, short_closed}
use Rattle.paths.proofs.too_short.Goals as goal

pub get-n-requires : goal.get-n-requires
get-n-requires c = let h = round_here _ _ _ c.requires in search rules

pub get-p-requires : goal.get-p-requires
get-p-requires c = let h = round_here _ _ _ c.requires in search rules

pub returns-then-n-f : goal.returns-then-n-f
returns-then-n-f c = short_one _ _ c.requires c.args.opened _ c.get-n.ensures.0 c.if-n-f.true

pub returns-then-opened : goal.returns-then-opened
returns-then-opened c = short_open _ _ c.requires _ _ c.get-n.ensures.0 c.if-n-f.false c.if-opened.true

pub returns : goal.returns
returns c = short_closed _ _ c.requires _ _ _ c.get-n.ensures.0 c.get-p.ensures.0 c.if-n-f.false c.if-opened.false
