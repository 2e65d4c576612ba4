-- `validity_test` meets its contract.
use borrow.Author.Rules.{rules}
use Rattle.turns.proofs.Decisions.{maybe, is_valid, not_valid}
use Rattle.turns.proofs.decide.validity_test.Statement.{statement}
use Rattle.turns.proofs.decide.validity_test.Tie as tie

pub validity_test_spec : {M : Type 1} → statement M
validity_test_spec =
    tie.close
    (tie.spec
    (λ c κs. search rules)
    (λ c κs. search (maybe, rules))
    (λ c. search (is_valid))
    (λ c. search (not_valid)))
