-- `outline_reason` meets its contract.
use borrow.Author.Rules.{rules}
use Rattle.outline.proofs.Numbers.{told_here, as_told}
use Rattle.outline.proofs.outline_reason.Statement.{statement}
use Rattle.outline.proofs.outline_reason.Tie as tie

pub outline_reason_spec : {M : Type 1} → statement M
outline_reason_spec =
    tie.close
    (tie.spec
    (λ c κs. search rules)
    (λ c κs. search (rules, told_here))
    (λ c. search (rules, as_told)))
