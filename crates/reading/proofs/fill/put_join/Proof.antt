-- `reading::fill::put_join` meets its contract: two stores.
use borrow.Author.Rules.{rules}
use Rattle.reading.proofs.fill.put_join.Statement.{statement}
use Rattle.reading.proofs.fill.put_join.Tie as tie

pub put_join_spec : {M : Type 1} → statement M
put_join_spec =
    tie.close
    (tie.spec
    (λ c. search rules)
    (λ c κs. search rules)
    (λ c. search rules)
    (λ c. search rules)
    (λ c κs. search rules)
    (λ c. search rules)
    (λ c. cc))
