-- `reason_at` meets its contract.
use borrow.Author.Rules.{rules}
use Rattle.telling.proofs.Tells.{without, with_ring}
use Rattle.telling.proofs.reason_at.Statement.{statement}
use Rattle.telling.proofs.reason_at.Tie as tie

pub reason_at_spec : {M : Type 1} → statement M
reason_at_spec =
    tie.close
    (tie.spec
    (λ c κs. search rules)
    (λ c κs. search rules)
    (λ c. search without)
    (λ c κs. search rules)
    (λ c. search with_ring))
