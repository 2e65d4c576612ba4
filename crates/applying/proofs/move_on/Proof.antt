-- `move_on` meets its contract.
use borrow.Author.Rules.{rules}
use Rattle.applying.proofs.Applying.{moved}
use Rattle.applying.proofs.move_on.Statement.{statement}
use Rattle.applying.proofs.move_on.Tie as tie

pub move_on_spec : {M : Type 1} → statement M
move_on_spec =
    tie.close
    (tie.spec
    (λ c κs. search rules)
    (λ c κs. search rules)
    (λ c κs. search rules)
    (λ c κs. search rules)
    (λ c κs. search rules)
    (λ c. search rules)
    (λ c. search (moved)))
