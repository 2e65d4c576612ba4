-- `told_number` meets its contract.
use borrow.Author.Rules.{rules}
use Rattle.answers.proofs.Halves.{reason_within, told_is}
use Rattle.answers.proofs.told_number.Statement.{statement}
use Rattle.answers.proofs.told_number.Tie as tie

pub told_number_spec : {M : Type 1} → statement M
told_number_spec =
    tie.close
    (tie.spec
    (λ c. search rules)
    (λ c κs. search (rules, reason_within))
    (λ c. search rules)
    (λ c. search (rules, told_is))
    (λ c. search rules)
    (λ c κs. search rules)
    (λ c. search rules)
    (λ c. search rules))
