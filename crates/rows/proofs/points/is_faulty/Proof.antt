-- `rows::points::is_faulty` meets its contract: the first test that fails ends it.
use borrow.Author.Rules.{rules}
use Rattle.rows.proofs.Pointing.{off_by_x, off_by_y, on_table}
use Rattle.rows.proofs.points.is_faulty.Statement.{statement}
use Rattle.rows.proofs.points.is_faulty.Tie as tie

pub is_faulty_spec : {M : Type 1} → statement M
is_faulty_spec =
    tie.close
    (tie.spec
    (λ c κs. search rules)
    (λ c. search off_by_x)
    (λ c κs. search rules)
    (λ c. search off_by_y)
    (λ c κs. search rules)
    (λ c. search on_table))
