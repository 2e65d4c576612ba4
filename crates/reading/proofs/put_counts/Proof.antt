-- `reading::put_counts` meets its contract: three stores, one after the other.
use borrow.Author.Rules.{rules}
use Rattle.reading.proofs.put_counts.Statement.{statement}
use Rattle.reading.proofs.put_counts.Tie as tie

pub put_counts_spec : {M : Type 1} → statement M
put_counts_spec =
    tie.close
    (tie.spec
    (λ c κs. search rules)
    (λ c κs. search rules)
    (λ c κs. search rules)
    (λ c. search rules)
    (λ c. cc))
