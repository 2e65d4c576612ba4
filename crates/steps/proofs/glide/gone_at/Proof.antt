-- `gone_at` meets its contract: a point that is not in line stays.
use borrow.Author.Rules.{rules}
use Rattle.steps.proofs.Gliding.{not_in_line}
use Rattle.steps.proofs.glide.gone_at.Statement.{statement}
use Rattle.steps.proofs.glide.gone_at.Tie as tie

pub gone_at_spec : {M : Type 1} → statement M
gone_at_spec =
    tie.close
    (tie.spec
    (λ c κs. search rules)
    (λ c κs. search rules)
    (λ c κs. search rules)
    (λ c κs. search rules)
    (λ c. search (rules, not_in_line))
    (λ c κs. search rules)
    (λ c. search rules))
