-- `has_room` meets its contract.
use borrow.Author.Rules.{rules}
use Rattle.steps.proofs.Steps.{room_is}
use Rattle.steps.proofs.step.has_room.Statement.{statement}
use Rattle.steps.proofs.step.has_room.Tie as tie

pub has_room_spec : {M : Type 1} → statement M
has_room_spec =
    tie.close
    (tie.spec
    (λ c κs. search rules)
    (λ c κs. search rules)
    (λ c κs. search rules)
    (λ c κs. search rules)
    (λ c. search rules)
    (λ c. search rules)
    (λ c. search (room_is)))
