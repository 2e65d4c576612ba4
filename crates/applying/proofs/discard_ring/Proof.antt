-- `discard_ring` meets its contract.
use borrow.Author.Rules.{rules}
use Rattle.applying.proofs.Applying.{discarded}
use Rattle.applying.proofs.discard_ring.Statement.{statement}
use Rattle.applying.proofs.discard_ring.Tie as tie

pub discard_ring_spec : {M : Type 1} → statement M
discard_ring_spec =
    tie.close
    (tie.spec
    (λ c κs. search rules)
    (λ c κs. search rules)
    (λ c κs. search rules)
    (λ c κs. search rules)
    (λ c. search rules)
    (λ c. search (discarded)))
