-- `outline_step` meets its contract.
use borrow.Author.Rules.{rules}
use Rattle.outline.proofs.Numbers.{as_stepped}
use Rattle.outline.proofs.outline_step.Statement.{statement}
use Rattle.outline.proofs.outline_step.Tie as tie

pub outline_step_spec : {M : Type 1} → statement M
outline_step_spec =
    tie.close
    (tie.spec
    (λ c κs. search rules)
    (λ c κs. search rules)
    (λ c. search rules)
    (λ c. search (rules, as_stepped)))
