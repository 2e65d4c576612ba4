-- `next_of` meets its contract.
use borrow.Author.Rules.{rules}
use Rattle.turns.proofs.Reading.{low, found_next}
use Rattle.turns.proofs.ring.next_of.Statement.{statement}
use Rattle.turns.proofs.ring.next_of.Tie as tie

pub next_of_spec : {M : Type 1} → statement M
next_of_spec =
    tie.close
    (tie.spec
    (λ c κs. search (low, rules))
    (λ c. search (found_next, rules)))
