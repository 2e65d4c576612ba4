-- `outline_go_back` meets its contract.
use borrow.Author.Rules.{rules}
use Rattle.outline.proofs.Numbers.{as_back}
use Rattle.outline.proofs.outline_go_back.Statement.{statement}
use Rattle.outline.proofs.outline_go_back.Tie as tie

pub outline_go_back_spec : {M : Type 1} → statement M
outline_go_back_spec =
    tie.close
    (tie.spec
    (λ c κs. search rules)
    (λ c κs. search rules)
    (λ c. search rules)
    (λ c. search (rules, as_back)))
