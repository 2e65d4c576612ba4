-- `rows::points::is_astray` meets its contract: the first test that fails ends it.
use borrow.Author.Rules.{rules}
use Rattle.rows.proofs.Pointing.{no_next, no_prev, no_record, all_named}
use Rattle.rows.proofs.points.is_astray.Statement.{statement}
use Rattle.rows.proofs.points.is_astray.Tie as tie

pub is_astray_spec : {M : Type 1} → statement M
is_astray_spec =
    tie.close
    (tie.spec
    (λ c κs. search rules)
    (λ c. search no_next)
    (λ c κs. search rules)
    (λ c. search no_prev)
    (λ c κs. search rules)
    (λ c. search no_record)
    (λ c κs. search rules)
    (λ c. search all_named))
