-- untold meets its contract.
use borrow.Author.Rules.{rules}
use Rattle.audit.proofs.Testing.{says_untold}
use Rattle.audit.proofs.records.untold.Statement.{statement}
use Rattle.audit.proofs.records.untold.Tie as tie

pub untold_spec : {M : Type 1} → statement M
untold_spec =
    tie.close
    (tie.spec
    (λ c κs. search rules)
    (λ c κs. search rules)
    (λ c. search says_untold))
