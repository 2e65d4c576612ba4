-- `mending::put` meets its contract: a number past the table has no place.
use mathlib.Core.Path.{sym}
use lib.Seq.{set_out}
use borrow.Author.Rules.{rules}
use Rattle.mending.proofs.put.Goals as goal

pub returns-else-k-t : goal.returns-else-k-t
returns-else-k-t c = sym (set_out c.args.t.now c.args.k c.args.v (search rules))
