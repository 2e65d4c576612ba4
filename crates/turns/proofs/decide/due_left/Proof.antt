-- `due_left` meets its contract.
use borrow.Author.Rules.{rules}
use Rattle.turns.proofs.Decisions.{left_done, left_more}
use Rattle.turns.proofs.decide.due_left.Statement.{statement}
use Rattle.turns.proofs.decide.due_left.Tie as tie

pub due_left_spec : {M : Type 1} → statement M
due_left_spec =
    tie.close
    (tie.spec
    (λ c κs. search rules)
    (λ c. search (left_done))
    (λ c. search (left_more)))
