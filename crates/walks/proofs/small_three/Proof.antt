-- small_three meets its contract.
use borrow.Author.Rules.{rules}
use Rattle.walks.proofs.small_three.Statement.{statement}
use Rattle.walks.proofs.small_three.Tie as tie

pub small_three_spec : {M : Type 1} → statement M
small_three_spec =
    tie.close
    (tie.spec
    (λ c κs. search rules)
    (λ c κs. search rules)
    (λ c κs. search rules)
    (λ c κs. search rules)
    (λ c. cc))
