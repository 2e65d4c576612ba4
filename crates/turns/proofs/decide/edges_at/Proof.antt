-- `edges_at` meets its contract.
use borrow.Author.Rules.{rules}
use Rattle.turns.proofs.Decisions.{edges_at}
use Rattle.turns.proofs.decide.edges_at.Statement.{statement}
use Rattle.turns.proofs.decide.edges_at.Tie as tie

pub edges_at_spec : {M : Type 1} → statement M
edges_at_spec =
    tie.close
    (tie.spec
    (λ c κs. search rules)
    (λ c κs. search rules)
    (λ c κs. search rules)
    (λ c κs. search rules)
    (λ c κs. search rules)
    (λ c. search (edges_at)))
