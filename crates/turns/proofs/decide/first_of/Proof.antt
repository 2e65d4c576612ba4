-- `first_of` meets its contract.
use borrow.Author.Rules.{rules}
use Rattle.turns.proofs.Decisions.{found_first}
use Rattle.turns.proofs.decide.first_of.Statement.{statement}
use Rattle.turns.proofs.decide.first_of.Tie as tie

pub first_of_spec : {M : Type 1} → statement M
first_of_spec =
    tie.close
    (tie.spec
    (λ c κs. search rules)
    (λ c. search (found_first)))
