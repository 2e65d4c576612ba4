-- `opening::start::start_ring` meets its contract.
use borrow.Author.Rules.{rules}
use Rattle.opening.specs.Start.{start_ring}
use Rattle.opening.proofs.start.start_ring.Statement.{statement}
use Rattle.opening.proofs.start.start_ring.Tie as tie

pub start_ring_spec : {M : Type 1} → statement M
unfolding start_ring
start_ring_spec =
    tie.close
    (tie.spec
    (λ c κs. search rules)
    (λ c κs. search rules)
    (λ c κs. search rules)
    (λ c κs. search rules)
    (λ c κs. search rules)
    (λ c. search rules)
    (λ c. cc))
