-- `test_text::words::more` meets its contract.
use borrow.Author.Rules.{rules}
use Rattle.test_text.proofs.Reading.{more_in, more_past}
use Rattle.test_text.proofs.words.more.Statement.{statement}
use Rattle.test_text.proofs.words.more.Tie as tie

pub more_spec : {M : Type 1} → statement M
more_spec =
    tie.close
    (tie.spec
    (λ c. search rules)
    (λ c. search rules)
    (λ c. search rules)
    (λ c. search more_in)
    (λ c. search more_past))
