-- `take_record` meets its contract.
use borrow.Author.Rules.{rules}
use Rattle.applying.proofs.Applying.{took_record}
use Rattle.applying.proofs.take_record.Statement.{statement}
use Rattle.applying.proofs.take_record.Tie as tie

pub take_record_spec : {M : Type 1} → statement M
take_record_spec =
    tie.close
    (tie.spec
    (λ c. search rules)
    (λ c κs. search rules)
    (λ c κs. search rules)
    (λ c κs. search rules)
    (λ c. search rules)
    (λ c. search (took_record)))
