-- `polygons::along` meets its contract.
use borrow.Author.Rules.{rules}
use Rattle.listing.proofs.Runs.{in_table}
use Rattle.polygons.proofs.Going.{along_on, along_off, side_known}
use Rattle.polygons.proofs.along.Statement.{statement}
use Rattle.polygons.proofs.along.Tie as tie

pub along_spec : {M : Type 1} → statement M
along_spec =
    tie.close
    (tie.spec
    (λ c. search (rules, along_on))
    (λ c κs. search rules)
    (λ c κs. search rules)
    (λ c κs. (search rules, (search (rules, in_table), (search (rules, in_table), search (rules, side_known)))))
    (λ c κs. search rules)
    (λ c. search (rules, along_off)))
