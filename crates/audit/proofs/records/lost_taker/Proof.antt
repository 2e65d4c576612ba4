-- lost_taker meets its contract.
use borrow.Author.Rules.{rules}
use Rattle.audit.proofs.Testing.{says_lost}
use Rattle.audit.proofs.records.lost_taker.Statement.{statement}
use Rattle.audit.proofs.records.lost_taker.Tie as tie

pub lost_taker_spec : {M : Type 1} → statement M
lost_taker_spec =
    tie.close
    (tie.spec
    (λ c κs. search rules)
    (λ c κs. search rules)
    (λ c κs. search rules)
    (λ c κs. search rules)
    (λ c. search says_lost))
