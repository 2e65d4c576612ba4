-- `reading::points::put_value` meets its contract: six numbers, and the point stored.
use borrow.Author.Rules.{rules}
use Rattle.reading.proofs.Running.{value_put}
use Rattle.reading.proofs.points.put_value.Statement.{statement}
use Rattle.reading.proofs.points.put_value.Tie as tie

pub put_value_spec : {M : Type 1} → statement M
put_value_spec =
    tie.close
    (tie.spec
    (λ c κs. search rules)
    (λ c κs. search rules)
    (λ c κs. search rules)
    (λ c κs. search rules)
    (λ c κs. search rules)
    (λ c κs. search rules)
    (λ c κs. search rules)
    (λ c. search rules)
    (λ c. search value_put))
