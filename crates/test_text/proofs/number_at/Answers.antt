-- `test_text::number_at` meets its contract: past the end it is 0.
use borrow.Author.Rules.{rules}
use Rattle.test_text.proofs.Past.{number_past}
use Rattle.test_text.proofs.number_at.Goals as goal

pub returns : goal.returns
returns c = search (rules, number_past)
