-- `due_on` meets its contract.
use borrow.Author.Rules.{rules}
use Rattle.turns.proofs.Decisions.{ends_first, ends_start, goes_on}
use Rattle.turns.proofs.decide.due_on.Statement.{statement}
use Rattle.turns.proofs.decide.due_on.Tie as tie

pub due_on_spec : {M : Type 1} → statement M
due_on_spec =
    tie.close
    (tie.spec
    (λ c κs. search rules)
    (λ c. search (ends_first))
    (λ c κs. search rules)
    (λ c. search (ends_start))
    (λ c. search (goes_on)))
