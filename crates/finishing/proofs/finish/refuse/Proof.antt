-- `refuse` meets its contract.
use borrow.Author.Rules.{rules}
use Rattle.finishing.proofs.InOneCall.{zeros}
use Rattle.finishing.proofs.finish.refuse.Statement.{statement}
use Rattle.finishing.proofs.finish.refuse.Tie as tie

pub refuse_spec : {M : Type 1} → statement M
refuse_spec =
    tie.close
    (tie.spec
    (λ c κs. search rules)
    (λ c κs. search rules)
    (λ c. search rules)
    (λ c. search rules)
    (λ c. search (zeros)))
