-- `paths::put_point` meets its contract.
use borrow.Author.Rules.{rules}
use Rattle.paths.proofs.Writing.{point_put}
use Rattle.paths.proofs.round.put_point.Statement.{statement}
use Rattle.paths.proofs.round.put_point.Tie as tie

pub put_point_spec : {M : Type 1} → statement M
put_point_spec =
    tie.close
    (tie.spec
    (λ c κs. search rules)
    (λ c κs. search rules)
    (λ c κs. search rules)
    (λ c. search rules)
    (λ c κs. search rules)
    (λ c. search rules)
    (λ c. search rules)
    (λ c κs. search rules)
    (λ c. search rules)
    (λ c. search rules)
    (λ c κs. search rules)
    (λ c. search rules)
    (λ c. search point_put))
