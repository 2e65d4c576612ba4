-- `is_three` meets its contract.
use borrow.Author.Rules.{rules}
use Rattle.turns.proofs.Decisions.{three_is}
use Rattle.turns.proofs.decide.is_three.Statement.{statement}
use Rattle.turns.proofs.decide.is_three.Tie as tie

pub is_three_spec : {M : Type 1} → statement M
is_three_spec =
    tie.close
    (tie.spec
    (λ c κs. search rules)
    (λ c κs. search rules)
    (λ c κs. search rules)
    (λ c. search (three_is)))
