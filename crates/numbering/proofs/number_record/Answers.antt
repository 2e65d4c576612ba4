-- `numbering::number_record` meets its contract: a record without points has nothing to number.
use borrow.Author.Rules.{rules}
use Rattle.numbering.proofs.Rounds.{ringless_numbered}
use Rattle.numbering.proofs.number_record.Goals as goal

pub returns-then-a-eq-NONE : goal.returns-then-a-eq-NONE
returns-then-a-eq-NONE c = search (rules, ringless_numbered)
