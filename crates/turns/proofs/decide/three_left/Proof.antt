-- `three_left` meets its contract.
use borrow.Author.Rules.{rules}
use Rattle.turns.proofs.Decisions.{left_put, left_plain}
use Rattle.turns.proofs.decide.three_left.Statement.{statement}
use Rattle.turns.proofs.decide.three_left.Tie as tie

pub three_left_spec : {M : Type 1} → statement M
three_left_spec =
    tie.close
    (tie.spec
    (λ c κs. search rules)
    (λ c κs. search rules)
    (λ c κs. search rules)
    (λ c κs. search rules)
    (λ c. search (left_put))
    (λ c κs. search rules)
    (λ c. search (left_plain)))
