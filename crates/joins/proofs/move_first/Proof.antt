-- `joins::move_first` meets its contract.
use borrow.Author.Rules.{rules}
use Rattle.joins.proofs.Turns.{move_first_yes, move_first_no}
use Rattle.joins.proofs.move_first.Statement.{statement}
use Rattle.joins.proofs.move_first.Tie as tie

pub move_first_spec : {M : Type 1} → statement M
move_first_spec =
    tie.close
    (tie.spec
    (λ c κs. search rules)
    (λ c κs. search rules)
    (λ c κs. search rules)
    (λ c κs. search rules)
    (λ c. search rules)
    (λ c. search move_first_yes)
    (λ c. search rules)
    (λ c. search move_first_no))
