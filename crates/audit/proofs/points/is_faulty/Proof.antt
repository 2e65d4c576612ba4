-- is_faulty meets its contract: the first test that fails ends it.
use borrow.Author.Rules.{rules}
use Rattle.audit.proofs.Testing.{point_astray, point_unowned, point_loose, point_off, point_else}
use Rattle.audit.proofs.points.is_faulty.Statement.{statement}
use Rattle.audit.proofs.points.is_faulty.Tie as tie

pub is_faulty_spec : {M : Type 1} → statement M
is_faulty_spec =
    tie.close
    (tie.spec
    (λ c. search point_astray)
    (λ c κs. search rules)
    (λ c. search point_unowned)
    (λ c κs. search rules)
    (λ c. search point_loose)
    (λ c κs. search rules)
    (λ c. search point_off)
    (λ c κs. search rules)
    (λ c. search point_else))
