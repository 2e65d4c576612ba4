-- box_stepped meets its contract.
use borrow.Author.Rules.{rules}
use Rattle.boxed_steps.proofs.Carrying.{boxed_long, boxed_few, both_boxed}
use Rattle.boxed_steps.proofs.box_stepped.Statement.{statement}
use Rattle.boxed_steps.proofs.box_stepped.Tie as tie

pub box_stepped_spec : {M : Type 1} → statement M
box_stepped_spec =
    tie.close
    (tie.spec
    (λ c κs. search rules)
    (λ c κs. (search boxed_long, search boxed_few))
    (λ c. search rules)
    (λ c. search both_boxed))
