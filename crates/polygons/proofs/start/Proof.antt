-- `polygons::start` meets its contract.
use borrow.Author.Rules.{rules}
use Rattle.polygons.proofs.Going.{start_is}
use Rattle.polygons.proofs.start.Statement.{statement}
use Rattle.polygons.proofs.start.Tie as tie

pub start_spec : {M : Type 1} → statement M
start_spec = tie.close (tie.spec (λ c κs. search rules) (λ c κs. search rules) (λ c. search (rules, start_is)))
