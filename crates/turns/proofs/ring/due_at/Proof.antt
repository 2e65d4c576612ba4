-- `due_at` meets its contract.
use borrow.Author.Rules.{rules}
use Rattle.turns.proofs.Reading.{due_0, due_1, due_2, due_3, due_4}
use Rattle.turns.proofs.ring.due_at.Statement.{statement}
use Rattle.turns.proofs.ring.due_at.Tie as tie

pub due_at_spec : {M : Type 1} → statement M
due_at_spec =
    tie.close
    (tie.spec
    (λ c κs. search rules)
    (λ c. search (due_0, due_1, due_2, due_3, due_4, rules))
    (λ c. search (due_0, due_1, due_2, due_3, due_4, rules))
    (λ c. search (due_0, due_1, due_2, due_3, due_4, rules))
    (λ c. search (due_0, due_1, due_2, due_3, due_4, rules))
    (λ c. search (due_0, due_1, due_2, due_3, due_4, rules)))
