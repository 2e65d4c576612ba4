-- keeps_name meets its contract.
use borrow.Author.Rules.{rules}
use Rattle.states.proofs.Lowest.{keeps_is}
use Rattle.states.proofs.places.keeps_name.Statement.{statement}
use Rattle.states.proofs.places.keeps_name.Tie as tie

pub keeps_name_spec : {M : Type 1} → statement M
keeps_name_spec =
    tie.close
    (tie.spec
    (λ c κs. search rules)
    (λ c. search rules)
    (λ c. search keeps_is))
