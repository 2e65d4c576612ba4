-- `crosses_at` meets its contract.
use borrow.Author.Rules.{rules}
use Rattle.steps.proofs.Gliding.{hit_is}
use Rattle.steps.proofs.glide.crosses_at.Statement.{statement}
use Rattle.steps.proofs.glide.crosses_at.Tie as tie

pub crosses_at_spec : {M : Type 1} → statement M
crosses_at_spec =
    tie.close
    (tie.spec
    (λ c κs. search rules)
    (λ c κs. search rules)
    (λ c κs. search rules)
    (λ c κs. search rules)
    (λ c κs. search rules)
    (λ c κs. search rules)
    (λ c. search hit_is))
