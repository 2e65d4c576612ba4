-- `point_at` meets its contract.
use borrow.Author.Rules.{rules}
use Rattle.paths.proofs.Coordinates.{point_is}
use Rattle.paths.proofs.round.point_at.Statement.{statement}
use Rattle.paths.proofs.round.point_at.Tie as tie

pub point_at_spec : {M : Type 1} → statement M
point_at_spec = tie.close (tie.spec (λ c κs. search rules) (λ c. search (point_is, rules)))
