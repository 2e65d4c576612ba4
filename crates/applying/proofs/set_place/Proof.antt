-- `set_place` meets its contract.
use borrow.Author.Rules.{rules}
use Rattle.applying.proofs.Applying.{went_to}
use Rattle.applying.proofs.set_place.Statement.{statement}
use Rattle.applying.proofs.set_place.Tie as tie

pub set_place_spec : {M : Type 1} → statement M
set_place_spec =
    tie.close
    (tie.spec
    (λ c κs. search rules)
    (λ c κs. search rules)
    (λ c κs. search rules)
    (λ c κs. search rules)
    (λ c. search rules)
    (λ c. search (went_to)))
