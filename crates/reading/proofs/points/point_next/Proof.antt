-- `reading::points::point_next` meets its contract.
use borrow.Author.Rules.{rules}
use Rattle.reading.proofs.Running.{next_short, next_tests}
use Rattle.reading.proofs.points.point_next.Statement.{statement}
use Rattle.reading.proofs.points.point_next.Tie as tie

pub point_next_spec : {M : Type 1} → statement M
point_next_spec =
    tie.close
    (tie.spec
    (λ c. search next_short)
    (λ c. search rules)
    (λ c κs. search rules)
    (λ c. search next_tests))
