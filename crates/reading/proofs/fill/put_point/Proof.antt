-- `reading::fill::put_point` meets its contract: six stores, one after the other.
use borrow.Author.Rules.{rules}
use Rattle.reading.proofs.fill.put_point.Statement.{statement}
use Rattle.reading.proofs.fill.put_point.Tie as tie

pub put_point_spec : {M : Type 1} → statement M
put_point_spec =
    tie.close
    (tie.spec
    (λ c κs. search rules)
    (λ c κs. search rules)
    (λ c κs. search rules)
    (λ c κs. search rules)
    (λ c κs. search rules)
    (λ c κs. search rules)
    (λ c. search rules)
    (λ c. cc))
