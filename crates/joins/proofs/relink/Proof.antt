-- `joins::relink` meets its contract.
use borrow.Author.Rules.{rules}
use Rattle.joins.specs.Join.{relink_of}
use Rattle.joins.proofs.relink.Statement.{statement}
use Rattle.joins.proofs.relink.Tie as tie

pub relink_spec : {M : Type 1} → statement M
unfolding relink_of
relink_spec =
    tie.close
    (tie.spec
    (λ c κs. search rules)
    (λ c κs. search rules)
    (λ c κs. search rules)
    (λ c κs. search rules)
    (λ c κs. search rules)
    (λ c κs. search rules)
    (λ c. search rules)
    (λ c. cc))
