-- `rate_from` meets its contract.
use borrow.Author.Rules.{rules}
use Rattle.answers.proofs.Halves.{no_rate, some_rate}
use Rattle.answers.proofs.rate_from.Statement.{statement}
use Rattle.answers.proofs.rate_from.Tie as tie

pub rate_from_spec : {M : Type 1} → statement M
rate_from_spec =
    tie.close
    (tie.spec
    (λ c. search no_rate)
    (λ c κs. search rules)
    (λ c. search some_rate))
