-- `present_of` meets its contract.
use borrow.Author.Rules.{rules}
use Rattle.turns.proofs.Decisions.{found_present}
use Rattle.turns.proofs.decide.present_of.Statement.{statement}
use Rattle.turns.proofs.decide.present_of.Tie as tie

pub present_of_spec : {M : Type 1} → statement M
present_of_spec =
    tie.close
    (tie.spec
    (λ c κs. search rules)
    (λ c. search (found_present)))
