-- `reason_tested` meets its contract.
use borrow.Author.Rules.{rules}
use Rattle.telling.proofs.Tells.{unknown, early, told}
use Rattle.telling.proofs.reason_tested.Statement.{statement}
use Rattle.telling.proofs.reason_tested.Tie as tie

pub reason_tested_spec : {M : Type 1} → statement M
reason_tested_spec =
    tie.close
    (tie.spec
    (λ c κs. search rules)
    (λ c. search unknown)
    (λ c κs. search rules)
    (λ c. search early)
    (λ c κs. search rules)
    (λ c. search told))
