-- no_such_of meets its contract.
use borrow.Author.Rules.{rules}
use Rattle.audit.proofs.Testing.{says_unnamed}
use Rattle.audit.proofs.records.no_such_of.Statement.{statement}
use Rattle.audit.proofs.records.no_such_of.Tie as tie

pub no_such_of_spec : {M : Type 1} → statement M
no_such_of_spec =
    tie.close
    (tie.spec
    (λ c κs. search rules)
    (λ c κs. search rules)
    (λ c κs. search rules)
    (λ c κs. search rules)
    (λ c κs. search rules)
    (λ c κs. search rules)
    (λ c. search says_unnamed))
