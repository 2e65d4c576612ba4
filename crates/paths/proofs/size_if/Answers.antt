-- `paths::size_if` meets its contract.
use mathlib.Core.Path.{refl}
use Rattle.paths.proofs.Counts.{if_yes, if_no}
use Rattle.paths.proofs.size_if.Goals as goal

pub returns-then-o-opened : goal.returns-then-o-opened
returns-then-o-opened c = if_yes _ _ _ _ _ _ _ c.is_open-o.ensures refl c.if-o-opened.true c.requires.direction c.path_size.ensures

pub returns : goal.returns
returns c = if_no _ _ _ _ _ c.is_open-o.ensures refl c.if-o-opened.false
