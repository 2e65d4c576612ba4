-- `outline_drop` meets its contract.
use borrow.Author.Rules.{rules}
use Rattle.outline.proofs.Numbers.{as_dropped}
use Rattle.outline.proofs.outline_drop.Statement.{statement}
use Rattle.outline.proofs.outline_drop.Tie as tie

pub outline_drop_spec : {M : Type 1} → statement M
outline_drop_spec =
    tie.close
    (tie.spec
    (λ c κs. search rules)
    (λ c κs. search rules)
    (λ c. search rules)
    (λ c. search (rules, as_dropped)))
