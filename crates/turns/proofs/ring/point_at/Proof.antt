-- `point_at` meets its contract.
use borrow.Author.Rules.{rules}
use Rattle.turns.proofs.Reading.{low, x_low, y_low, valued}
use Rattle.turns.proofs.ring.point_at.Statement.{statement}
use Rattle.turns.proofs.ring.point_at.Tie as tie

pub point_at_spec : {M : Type 1} → statement M
point_at_spec =
    tie.close
    (tie.spec
    (λ c κs. search (low, x_low, y_low, rules))
    (λ c. search (valued)))
