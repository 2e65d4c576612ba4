-- is_free meets its contract.
use borrow.Author.Rules.{rules}
use Rattle.states.proofs.places.is_free.Statement.{statement}
use Rattle.states.proofs.places.is_free.Tie as tie

pub is_free_spec : {M : Type 1} → statement M
is_free_spec =
    tie.close
    (tie.spec
    (λ c κs. search rules)
    (λ c κs. search rules)
    (λ c. cc))
