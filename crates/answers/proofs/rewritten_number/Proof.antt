-- `rewritten_number` meets its contract: the bytes are few.
use borrow.Author.Rules.{rules}
use Rattle.answers.proofs.Halves.{half_fits, half_is}
use Rattle.answers.proofs.rewritten_number.Statement.{statement}
use Rattle.answers.proofs.rewritten_number.Tie as tie

pub rewritten_number_spec : {M : Type 1} → statement M
rewritten_number_spec =
    tie.close
    (tie.spec
    (λ c. search rules)
    (λ c. search (rules, half_fits))
    (λ c. search rules)
    (λ c κs. search rules)
    (λ c. search rules)
    (λ c. search (rules, half_is))
    (λ c. search rules))
