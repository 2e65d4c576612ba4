-- `removable_at` meets its contract.
use borrow.Author.Rules.{rules}
use Rattle.turns.proofs.Decisions.{removable_at}
use Rattle.turns.proofs.decide.removable_at.Statement.{statement}
use Rattle.turns.proofs.decide.removable_at.Tie as tie

pub removable_at_spec : {M : Type 1} → statement M
removable_at_spec =
    tie.close
    (tie.spec
    (λ c κs. search rules)
    (λ c κs. search rules)
    (λ c κs. search rules)
    (λ c κs. search rules)
    (λ c κs. search rules)
    (λ c. search (removable_at)))
