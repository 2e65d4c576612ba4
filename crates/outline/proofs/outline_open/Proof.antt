-- `outline_open` meets its contract.
use borrow.Author.Rules.{rules}
use Rattle.outline.proofs.Numbers.{as_opened_lem}
use Rattle.outline.proofs.outline_open.Statement.{statement}
use Rattle.outline.proofs.outline_open.Tie as tie

pub outline_open_spec : {M : Type 1} → statement M
outline_open_spec =
    tie.close
    (tie.spec
    (λ c κs. search rules)
    (λ c κs. search rules)
    (λ c. search rules)
    (λ c. search (rules, as_opened_lem)))
