-- `kept_reason` meets its contract.
use borrow.Author.Rules.{rules}
use Rattle.telling.proofs.Tells.{kept_joined, kept_small, kept_fell, kept_area, kept_none}
use Rattle.telling.proofs.kept_reason.Statement.{statement}
use Rattle.telling.proofs.kept_reason.Tie as tie

pub kept_reason_spec : {M : Type 1} → statement M
kept_reason_spec =
    tie.close
    (tie.spec
    (λ c κs. search rules)
    (λ c κs. search rules)
    (λ c. search kept_joined)
    (λ c. search kept_small)
    (λ c. search kept_fell)
    (λ c. search kept_area)
    (λ c. search kept_none))
