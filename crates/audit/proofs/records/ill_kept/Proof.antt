-- ill_kept meets its contract.
use borrow.Author.Rules.{rules}
use Rattle.audit.proofs.Testing.{of_two}
use Rattle.audit.proofs.records.ill_kept.Statement.{statement}
use Rattle.audit.proofs.records.ill_kept.Tie as tie

pub ill_kept_spec : {M : Type 1} → statement M
ill_kept_spec =
    tie.close
    (tie.spec
    (λ c κs. search rules)
    (λ c κs. search rules)
    (λ c. search of_two))
