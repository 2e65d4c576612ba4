-- `containment::answer` meets its contract.
use borrow.Author.Rules.{rules}
use Rattle.containment.proofs.Answering.{answer_short, answer_long}
use Rattle.containment.proofs.answer.Goals as goal

pub returns-then-answers-need : goal.returns-then-answers-need
returns-then-answers-need c = search (rules, answer_short)

pub returns : goal.returns
returns c = search (rules, answer_long)
