-- `rows::points::is_loose` meets its contract: the first test that fails ends it.
use borrow.Author.Rules.{rules}
use Rattle.rows.proofs.Pointing.{loose_prev, loose_next}
use Rattle.rows.proofs.points.is_loose.Statement.{statement}
use Rattle.rows.proofs.points.is_loose.Tie as tie

pub is_loose_spec : {M : Type 1} → statement M
is_loose_spec =
    tie.close
    (tie.spec
    (λ c κs. search rules)
    (λ c. search loose_prev)
    (λ c κs. search rules)
    (λ c. search loose_next))
