-- cut_may_change meets its contract.
use borrow.Author.Rules.{rules}
use Rattle.changes.proofs.Changing.{either_side}
use Rattle.changes.proofs.cut_may_change.Statement.{statement}
use Rattle.changes.proofs.cut_may_change.Tie as tie

pub cut_may_change_spec : {M : Type 1} → statement M
cut_may_change_spec =
    tie.close
    (tie.spec
    (λ c κs. search rules)
    (λ c κs. search rules)
    (λ c κs. search rules)
    (λ c κs. search rules)
    (λ c κs. search rules)
    (λ c. search either_side))
