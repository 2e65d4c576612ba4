-- `outline_contained` meets its contract.
use borrow.Author.Rules.{rules}
use Rattle.outline.proofs.Numbers.{as_contained_lem}
use Rattle.outline.proofs.outline_contained.Statement.{statement}
use Rattle.outline.proofs.outline_contained.Tie as tie

pub outline_contained_spec : {M : Type 1} → statement M
outline_contained_spec =
    tie.close
    (tie.spec
    (λ c κs. search rules)
    (λ c κs. search rules)
    (λ c. search rules)
    (λ c. search rules)
    (λ c. search rules)
    (λ c. search (rules, as_contained_lem)))
