-- `is_live` meets its contract.
use borrow.Author.Rules.{rules}
use Rattle.steps.proofs.Steps.{unknown, known, opened, no_ring, by_mark}
use Rattle.steps.proofs.step.is_live.Statement.{statement}
use Rattle.steps.proofs.step.is_live.Tie as tie

pub is_live_spec : {M : Type 1} → statement M
is_live_spec =
    tie.close
    (tie.spec
    (λ c κs. search rules)
    (λ c. search (unknown))
    (λ c κs. search (known, rules))
    (λ c. search (opened))
    (λ c κs. search (known, rules))
    (λ c. search (no_ring))
    (λ c κs. search (known, rules))
    (λ c. search (by_mark)))
