-- crowded meets its contract.
use borrow.Author.Rules.{rules}
use Rattle.audit.proofs.Testing.{says_crowd}
use Rattle.audit.proofs.crowded.Statement.{statement}
use Rattle.audit.proofs.crowded.Tie as tie

pub crowded_spec : {M : Type 1} → statement M
crowded_spec =
    tie.close
    (tie.spec
    (λ c κs. search rules)
    (λ c κs. search rules)
    (λ c. search says_crowd))
