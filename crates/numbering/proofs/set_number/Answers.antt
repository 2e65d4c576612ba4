-- `numbering::set_number` meets its contract: a number past the table has no place.
use mathlib.Core.Path.{sym}
use lib.Seq.{set_out}
use borrow.Author.Rules.{rules}
use Rattle.numbering.proofs.set_number.Goals as goal

pub returns-else-p-numbers : goal.returns-else-p-numbers
returns-else-p-numbers c = sym (set_out c.args.numbers.now c.args.p c.args.k (search rules))
