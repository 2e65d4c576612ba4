-- `found_number` meets its contract.
use borrow.Author.Rules.{rules}
use Rattle.answers.proofs.Halves.{found_fits, found_is}
use Rattle.answers.proofs.found_number.Statement.{statement}
use Rattle.answers.proofs.found_number.Tie as tie

pub found_number_spec : {M : Type 1} → statement M
found_number_spec =
    tie.close
    (tie.spec
    (λ c. search rules)
    (λ c. search found_fits)
    (λ c. search rules)
    (λ c κs. search rules)
    (λ c. search rules)
    (λ c. search found_is)
    (λ c. search rules))
