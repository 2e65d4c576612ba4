-- `laying::counts_of` meets its contract.
use borrow.Author.Rules.{rules}
use Rattle.laying.proofs.Calls.{counted}
use Rattle.laying.proofs.counts_of.Statement.{statement}
use Rattle.laying.proofs.counts_of.Tie as tie

pub counts_of_spec : {M : Type 1} → statement M
counts_of_spec =
    tie.close
    (tie.spec
    (λ c κs. search rules)
    (λ c κs. search rules)
    (λ c. search counted))
