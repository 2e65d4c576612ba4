-- `small_at_lem` meets its contract.
use borrow.Author.Rules.{rules}
use Rattle.turns.proofs.Decisions.{small_at_lem}
use Rattle.turns.proofs.decide.small_at.Statement.{statement}
use Rattle.turns.proofs.decide.small_at.Tie as tie

pub small_at_spec : {M : Type 1} → statement M
small_at_spec =
    tie.close
    (tie.spec
    (λ c κs. search rules)
    (λ c κs. search rules)
    (λ c κs. search rules)
    (λ c κs. search rules)
    (λ c. search (small_at_lem)))
