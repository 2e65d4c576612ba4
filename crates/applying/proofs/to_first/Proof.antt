-- `to_first` meets its contract.
use borrow.Author.Rules.{rules}
use Rattle.applying.proofs.Applying.{went_first}
use Rattle.applying.proofs.to_first.Statement.{statement}
use Rattle.applying.proofs.to_first.Tie as tie

pub to_first_spec : {M : Type 1} → statement M
to_first_spec =
    tie.close
    (tie.spec
    (λ c κs. search rules)
    (λ c κs. search rules)
    (λ c κs. search rules)
    (λ c κs. search rules)
    (λ c. search rules)
    (λ c. search (went_first)))
