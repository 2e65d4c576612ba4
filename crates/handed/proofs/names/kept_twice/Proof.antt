-- kept_twice meets its contract: the six pairs, in the definition's order.
use borrow.Author.Rules.{rules}
use Rattle.handed.proofs.Handing.{six_pairs}
use Rattle.handed.proofs.names.kept_twice.Statement.{statement}
use Rattle.handed.proofs.names.kept_twice.Tie as tie

pub kept_twice_spec : {M : Type 1} → statement M
kept_twice_spec =
    tie.close
    (tie.spec
    (λ c κs. search rules)
    (λ c κs. search rules)
    (λ c κs. search rules)
    (λ c κs. search rules)
    (λ c κs. search rules)
    (λ c κs. search rules)
    (λ c. search six_pairs))
