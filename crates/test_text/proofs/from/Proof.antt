-- `test_text::from` meets its contract.
use borrow.Author.Rules.{rules}
use Rattle.test_text.proofs.Past.{rest_past}
use Rattle.test_text.proofs.from.Statement.{statement}
use Rattle.test_text.proofs.from.Tie as tie

pub from_spec : {M : Type 1} → statement M
from_spec =
    tie.close
    (tie.spec
    (λ c κs. search rules)
    (λ c. search rules)
    (λ c κs. search rules)
    (λ c. search (rules, rest_past)))
