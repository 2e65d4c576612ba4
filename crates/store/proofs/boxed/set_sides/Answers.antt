-- set_sides meets its contract.
use Rattle.std.proofs.Common.{rules}
use Rattle.store.proofs.Boxing.{sides_set}
use Rattle.store.proofs.boxed.set_sides.Goals as goal

pub returns : goal.returns
returns c = search (sides_set, rules)
