-- `prev_of` meets its contract.
use borrow.Author.Rules.{rules}
use Rattle.turns.proofs.Reading.{low, found_prev}
use Rattle.turns.proofs.ring.prev_of.Statement.{statement}
use Rattle.turns.proofs.ring.prev_of.Tie as tie

pub prev_of_spec : {M : Type 1} → statement M
prev_of_spec =
    tie.close
    (tie.spec
    (λ c κs. search (low, rules))
    (λ c. search (found_prev, rules)))
