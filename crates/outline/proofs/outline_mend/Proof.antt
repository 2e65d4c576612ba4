-- `outline_mend` meets its contract.
use borrow.Author.Rules.{rules}
use Rattle.outline.proofs.Numbers.{as_mended_lem}
use Rattle.outline.proofs.outline_mend.Statement.{statement}
use Rattle.outline.proofs.outline_mend.Tie as tie

pub outline_mend_spec : {M : Type 1} → statement M
outline_mend_spec =
    tie.close
    (tie.spec
    (λ c κs. search rules)
    (λ c κs. search rules)
    (λ c. search rules)
    (λ c. search (rules, as_mended_lem)))
