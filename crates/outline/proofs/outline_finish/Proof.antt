-- `outline_finish` meets its contract.
use borrow.Author.Rules.{rules}
use Rattle.outline.proofs.Numbers.{as_finished_lem}
use Rattle.outline.proofs.outline_finish.Statement.{statement}
use Rattle.outline.proofs.outline_finish.Tie as tie

pub outline_finish_spec : {M : Type 1} → statement M
outline_finish_spec =
    tie.close
    (tie.spec
    (λ c κs. search rules)
    (λ c κs. search rules)
    (λ c. search rules)
    (λ c. search rules)
    (λ c. search (rules, as_finished_lem)))
