-- edge_to meets its contract.
use borrow.Author.Rules.{rules}
use Rattle.walks.proofs.Edges.{prev_low, prev_x, prev_y, prev_table, here_table, edge_is}
use Rattle.walks.proofs.edge_to.Statement.{statement}
use Rattle.walks.proofs.edge_to.Tie as tie

pub edge_to_spec : {M : Type 1} → statement M
edge_to_spec =
    tie.close
    (tie.spec
    (λ c κs. search rules)
    (λ c κs. search (rules, prev_low, prev_x, prev_y))
    (λ c κs. search rules)
    (λ c κs. search (prev_table, here_table))
    (λ c. search edge_is))
