-- `outline_lay_together` meets its contract.
use borrow.Author.Rules.{rules}
use Rattle.outline.proofs.Numbers.{as_laid}
use Rattle.outline.proofs.outline_lay_together.Statement.{statement}
use Rattle.outline.proofs.outline_lay_together.Tie as tie

pub outline_lay_together_spec : {M : Type 1} → statement M
outline_lay_together_spec =
    tie.close
    (tie.spec
    (λ c κs. search rules)
    (λ c κs. search rules)
    (λ c. search rules)
    (λ c. search (rules, as_laid)))
