-- `rewriting::writing::put_corners` meets its contract: a record without points has none to write.
use borrow.Author.Rules.{rules}
use Rattle.rewriting.proofs.Laying.{ringless_poured}
use Rattle.rewriting.proofs.writing.put_corners.Goals as goal

pub returns-then-a-eq-NONE : goal.returns-then-a-eq-NONE
returns-then-a-eq-NONE c = search (rules, ringless_poured)
