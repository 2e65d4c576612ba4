-- `reading::fill::put_record` meets its contract: four stores, one after the other.
use borrow.Author.Rules.{rules}
use Rattle.reading.proofs.fill.put_record.Statement.{statement}
use Rattle.reading.proofs.fill.put_record.Tie as tie

pub put_record_spec : {M : Type 1} → statement M
put_record_spec =
    tie.close
    (tie.spec
    (λ c κs. search rules)
    (λ c κs. search rules)
    (λ c κs. search rules)
    (λ c κs. search rules)
    (λ c κs. search rules)
    (λ c. search rules)
    (λ c. cc))
