-- `visits::place_of` meets its contract: a record without points has nothing to walk.
use borrow.Author.Rules.{rules}
use Rattle.visits.proofs.Rounds.{begins_ringless, begins_ring}
use Rattle.visits.proofs.place_of.Statement.{statement}
use Rattle.visits.proofs.place_of.Tie as tie

pub place_of_spec : {M : Type 1} → statement M
place_of_spec =
    tie.close
    (tie.spec
    (λ c κs. search rules)
    (λ c. search (rules, begins_ringless))
    (λ c. search (rules, begins_ring)))
