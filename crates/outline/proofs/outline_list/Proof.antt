-- `outline_list` meets its contract.
use borrow.Author.Rules.{rules}
use Rattle.outline.proofs.Numbers.{too_short, as_listed_lem}
use Rattle.outline.proofs.outline_list.Statement.{statement}
use Rattle.outline.proofs.outline_list.Tie as tie

pub outline_list_spec : {M : Type 1} → statement M
outline_list_spec =
    tie.close
    (tie.spec
    (λ c κs. search rules)
    (λ c. search (rules, too_short))
    (λ c κs. search rules)
    (λ c κs. search rules)
    (λ c κs. search rules)
    (λ c. search rules)
    (λ c. search rules)
    (λ c. search rules)
    (λ c. search (rules, as_listed_lem)))
