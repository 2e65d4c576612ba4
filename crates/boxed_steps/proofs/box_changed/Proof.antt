-- box_changed meets its contract.
use borrow.Author.Rules.{rules}
use Rattle.boxed_steps.proofs.Carrying.{there_already}
use Rattle.boxed_steps.proofs.box_changed.Statement.{statement}
use Rattle.boxed_steps.proofs.box_changed.Tie as tie

pub box_changed_spec : {M : Type 1} → statement M
box_changed_spec =
    tie.close
    (tie.spec
    (λ c κs. search rules)
    (λ c. search rules)
    (λ c. search rules)
    (λ c. search there_already))
