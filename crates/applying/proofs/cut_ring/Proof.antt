-- `cut_ring` meets its contract.
use borrow.Author.Rules.{rules}
use Rattle.applying.proofs.Applying.{next_low, prev_low, second_low, cut_out}
use Rattle.applying.proofs.cut_ring.Statement.{statement}
use Rattle.applying.proofs.cut_ring.Tie as tie

pub cut_ring_spec : {M : Type 1} → statement M
cut_ring_spec =
    tie.close
    (tie.spec
    (λ c κs. search rules)
    (λ c κs. search rules)
    (λ c κs. search (next_low, prev_low, second_low, cut_out, rules))
    (λ c κs. search rules)
    (λ c κs. search (next_low, prev_low, second_low, cut_out, rules))
    (λ c κs. search rules)
    (λ c. search rules)
    (λ c. search (next_low, prev_low, second_low, cut_out)))
