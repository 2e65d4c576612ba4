-- `outline_keep` meets its contract.
use borrow.Author.Rules.{rules}
use Rattle.outline.proofs.Numbers.{as_kept}
use Rattle.outline.proofs.outline_keep.Statement.{statement}
use Rattle.outline.proofs.outline_keep.Tie as tie

pub outline_keep_spec : {M : Type 1} → statement M
outline_keep_spec =
    tie.close
    (tie.spec
    (λ c κs. search rules)
    (λ c κs. search rules)
    (λ c. search rules)
    (λ c. search (rules, as_kept)))
