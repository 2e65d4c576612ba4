-- on_side meets its contract.
use borrow.Author.Rules.{rules}
use Rattle.changes.proofs.Changing.{side_is}
use Rattle.changes.proofs.on_side.Statement.{statement}
use Rattle.changes.proofs.on_side.Tie as tie

pub on_side_spec : {M : Type 1} → statement M
on_side_spec =
    tie.close
    (tie.spec
    (λ c κs. search rules)
    (λ c κs. search rules)
    (λ c. search side_is))
