-- loose meets its contract.
use borrow.Author.Rules.{rules}
use Rattle.audit.proofs.Testing.{says_untied}
use Rattle.audit.proofs.points.loose.Statement.{statement}
use Rattle.audit.proofs.points.loose.Tie as tie

pub loose_spec : {M : Type 1} → statement M
loose_spec =
    tie.close
    (tie.spec
    (λ c κs. search rules)
    (λ c κs. search rules)
    (λ c κs. search rules)
    (λ c κs. search rules)
    (λ c. search says_untied))
