-- `coming_by` meets its contract.
use borrow.Author.Rules.{rules}
use Rattle.steps.proofs.Gliding.{gone_comes}
use Rattle.steps.proofs.glide.coming_by.Statement.{statement}
use Rattle.steps.proofs.glide.coming_by.Tie as tie

pub coming_by_spec : {M : Type 1} → statement M
coming_by_spec =
    tie.close
    (tie.spec
    (λ c. search rules)
    (λ c. search rules)
    (λ c. search rules)
    (λ c. search rules)
    (λ c. search gone_comes)
    (λ c. search rules))
