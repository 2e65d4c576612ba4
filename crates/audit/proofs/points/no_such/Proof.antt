-- no_such meets its contract.
use borrow.Author.Rules.{rules}
use Rattle.audit.proofs.Testing.{says_unnumbered}
use Rattle.audit.proofs.points.no_such.Statement.{statement}
use Rattle.audit.proofs.points.no_such.Tie as tie

pub no_such_spec : {M : Type 1} → statement M
no_such_spec =
    tie.close
    (tie.spec
    (λ c κs. search rules)
    (λ c κs. search rules)
    (λ c κs. search rules)
    (λ c κs. search rules)
    (λ c κs. search rules)
    (λ c. search says_unnumbered))
