-- `segments::update::has_front` meets its contract.
use borrow.Author.Rules.{rules}
use Rattle.segments.proofs.update.has_front.Statement.{statement}
use Rattle.segments.proofs.update.has_front.Tie as tie

pub has_front_spec : {M : Type 1} → statement M
has_front_spec =
    tie.close
    (tie.spec
    (λ c κs. search rules)
    (λ c. cc))
